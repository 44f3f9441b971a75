use Rattle.std.proofs.Common.{arith}
use Rattle.words.specs.declared.graph.Graph.{Graph}
use Rattle.words.proofs.Ranges.{ranges}
use Rattle.bench.specs.declared.retiming.Retiming.{Retiming}
use Rattle.bench.proofs.Soundness.{sound}
use Rattle.bench.proofs.bench.Bench.put_cell.Goals as goal

pub operation_word-requires : goal.operation_word-requires
operation_word-requires c =
    let g : Graph = c.args.self.now.design.graph in
    let p : Retiming = c.args.self.now.retiming in
    (omega (arith, (ranges g c.args.self.now.design.sound).few, c.requires.node), omega (arith, (sound g p c.args.self.now.sound).lags c.args.node))
