use Rattle.std.proofs.Common.{sym, ◌∙◌, ap₂, subst}
use Rattle.words.specs.declared.design.Design.{Design}
use Rattle.words.specs.declared.graph.Graph.{Graph}
use Rattle.words.proofs.Ranges.{ranges}
use Rattle.bench.specs.declared.retiming.Retiming.{Retiming}
use Rattle.bench.specs.Orders.{Fires}
use Rattle.bench.specs.Retimings.{order}
use Rattle.bench.proofs.Complete.{fires_order}
use Rattle.bench.proofs.Soundness.{sound}
use Rattle.bench.proofs.bench.Bench.order.Goals as goal

pub returns-clause-fires : goal.returns-clause-fires
returns-clause-fires c =
    let g : Graph = c.args.self.now.design.graph in
    let p : Retiming = c.args.self.now.retiming in
    let same = c.firing.ensures ∙ ap₂ (λ (d : Design) (q : Retiming). order d.graph q) c.retimed.ensures.design c.retimed.ensures.retiming in
    subst (λ l. Fires g p l) (sym same) (fires_order g (ranges g c.args.self.now.design.sound).few p (sound g p c.args.self.now.sound) c.args.self.now.ordered)
