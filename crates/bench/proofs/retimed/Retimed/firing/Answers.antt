use Rattle.std.proofs.Common.{◌≡◌, ◌<◌, ◌++◌, [], ◌∷◌, length, sym, refl, ap, ◌∙◌, arith}
use Rattle.std.proofs.lemmas.List.{length_push}
use Rattle.words.specs.declared.graph.Graph.{Graph}
use Rattle.words.proofs.Ranges.{ranges}
use Rattle.bench.specs.Firing.{listed_after}
use Rattle.bench.specs.Retimings.{waits}
use Rattle.bench.proofs.Fires.{fired_one, fired_all, next_some}
use Rattle.bench.proofs.retimed.Retimed.firing.Goals as goal
use Rattle.bench.proofs.retimed.Retimed.firing.Goals.{In-Some}

pub loop-node-init : goal.loop-node-init
unfolding listed_after
loop-node-init c = rw c.empty-order.ensures refl

-- the node that is listed, and the list with it
one : (c : In-Some) → (length c.loop-node.order < c.args.self.now.design.now.graph.count) × (c.in-Some.node < c.args.self.now.design.now.graph.count)
    × (c.loop-node.order ++ c.in-Some.node ∷ [] ≡ listed_after c.args.self.now.design.now.graph.count (waits c.args.self.now.design.now.graph c.args.self.now.retiming.now) (length (c.loop-node.order ++ c.in-Some.node ∷ [])))
one c =
    let g : Graph = c.args.self.now.design.now.graph in
    fired_one g.count (waits g c.args.self.now.retiming.now) c.loop-node.order c.in-Some.node c.loop-node.invariant (sym c.next.ensures ∙ c.in-Some.is)

pub list-requires : goal.list-requires
list-requires c =
    let g : Graph = c.args.self.now.design.now.graph in
    let few = (ranges g c.args.self.now.design.now.sound).few in
    let o = one (goal.at.list-requires c).In-Some in
    let free = next_some g.count (waits g c.args.self.now.retiming.now) c.loop-node.order c.in-Some.node (sym c.next.ensures ∙ c.in-Some.is) in
    record { room = omega (arith, few, o.0); node = omega (arith, few, o.1); new = free.1 }

pub loop-node-smaller : goal.loop-node-smaller
loop-node-smaller c = omega (arith, (one (goal.at.loop-node-smaller c).In-Some).0, ap length c.list.ensures, length_push c.loop-node.order c.in-Some.node)

pub loop-node-preserved : goal.loop-node-preserved
loop-node-preserved c = rw c.list.ensures (one (goal.at.loop-node-preserved c).In-Some).2

pub returns : goal.returns
returns c =
    let g : Graph = c.args.self.now.design.now.graph in
    fired_all g.count (waits g c.args.self.now.retiming.now) c.loop-node.order c.loop-node.invariant (sym c.next.ensures ∙ c.in_default.is)
