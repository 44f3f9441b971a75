use Rattle.words.proofs.Ranges.{ranges}
use Rattle.bench.proofs.Celling.{lists_cells}
use Rattle.bench.proofs.Complete.{ranked_order, fires_order}
use Rattle.bench.proofs.Emitting.{reaches}
use Rattle.bench.proofs.Soundness.{sound}
use Rattle.bench.proofs.Tabled.{program_table, table_in_range}
use Rattle.bench.proofs.bench.Bench.emit.Goals as goal

pub returns-clause-lines : goal.returns-clause-lines
returns-clause-lines c = reaches c.args.self.now.design.graph c.args.self.now.retiming

pub returns-clause-cells : goal.returns-clause-cells
returns-clause-cells c =
    let r = ranges c.args.self.now.design.graph c.args.self.now.design.sound in
    lists_cells c.args.self.now.design.graph c.args.self.now.retiming r
    (fires_order c.args.self.now.design.graph r.few c.args.self.now.retiming (sound c.args.self.now.design.graph c.args.self.now.retiming c.args.self.now.sound) c.args.self.now.ordered)

pub returns-clause-table : goal.returns-clause-table
returns-clause-table c =
    let g = c.args.self.now.design.graph in
    let p = c.args.self.now.retiming in
    program_table g p (ranked_order g (ranges g c.args.self.now.design.sound).few p (sound g p c.args.self.now.sound) c.args.self.now.ordered).whole

pub returns-clause-in_range : goal.returns-clause-in_range
returns-clause-in_range c =
    let g = c.args.self.now.design.graph in
    let p = c.args.self.now.retiming in
    let r = ranges g c.args.self.now.design.sound in
    let s = sound g p c.args.self.now.sound in
    table_in_range g r p s (ranked_order g r.few p s c.args.self.now.ordered)
