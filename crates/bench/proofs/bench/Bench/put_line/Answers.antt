use Rattle.std.proofs.Common.{arith}
use Rattle.words.specs.declared.graph.Graph.{Graph}
use Rattle.words.proofs.Ranges.{ranges}
use Rattle.bench.specs.declared.retiming.Retiming.{Retiming}
use Rattle.bench.proofs.Emitting.{line_few}
use Rattle.bench.proofs.Soundness.{sound}
use Rattle.bench.proofs.bench.Bench.put_line.Goals as goal

pub place_word-requires : goal.place_word-requires
place_word-requires c =
    let g : Graph = c.args.self.now.design.graph in
    let p : Retiming = c.args.self.now.retiming in
    let few = line_few g (ranges g c.args.self.now.design.sound) p (sound g p c.args.self.now.sound) c.args.source in
    (omega (arith, c.requires.source), omega (arith, c.from-length.ensures, c.line_length.ensures))
