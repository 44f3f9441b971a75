use Rattle.std.proofs.Common.{◌≡◌, ℕ, ◌<◌, ◌++◌, List, length, get_or, ap, ◌∙◌, subst, rules, arith}
use Rattle.words.specs.declared.graph.Graph.{Graph}
use Rattle.words.proofs.Ranges.{ranges}
use Rattle.bench.specs.declared.retiming.Retiming.{Retiming}
use Rattle.bench.specs.Programs.{cell}
use Rattle.bench.specs.Retimings.{order}
use Rattle.bench.proofs.Emitting.{turn_none, turn_more, cells_long}
use Rattle.bench.proofs.Lists.{has_at}
use Rattle.bench.proofs.bench.Bench.put_cells.Goals as goal

pub loop-node-init : goal.loop-node-init
loop-node-init c = turn_none _ _

-- this stands before what `put_cell` asks for, so that the check names a wrong cell first by the words that it spoils
pub loop-node-preserved : goal.loop-node-preserved
loop-node-preserved c =
    let g : Graph = c.args.self.now.design.graph in
    let p : Retiming = c.args.self.now.retiming in
    let k : ℕ = c.loop-node.node-index in
    let node : c.from.result ≡ get_or (order g p) k 0 = search rules in
    turn_more (λ r. cell g p (get_or (order g p) r 0)) c.args.program.now.items k c.loop-node.invariant (c.put_cell.ensures ∙ ap (λ i. c.loop-node.program.items ++ cell g p i) node)

pub put_cell-requires : goal.put_cell-requires
put_cell-requires c =
    let g : Graph = c.args.self.now.design.graph in
    let o : List ℕ = c.order-order.result in
    let k : ℕ = c.loop-node.node-index in
    let fires = c.order-order.ensures.fires in
    let long = cells_long g c.args.self.now.retiming c.args.program.now.items k c.loop-node.invariant in
    let here : k < length o = search rules in
    let node : get_or o k 0 ≡ c.from.result = search rules in
    record {
      room = omega (arith, c.requires, (ranges g c.args.self.now.design.sound).few, here, fires.whole);
      node = subst (λ i. i < g.count) node (fires.only (get_or o k 0) (has_at o k here));
    }
