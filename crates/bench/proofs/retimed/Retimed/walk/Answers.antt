use Rattle.std.proofs.Common.{true, false, length, is_some, sym, ap, ◌∙◌, arith}
use Rattle.std.proofs.lemmas.List.{length_push}
use Rattle.words.specs.declared.graph.Graph.{Graph}
use Rattle.words.proofs.Ranges.{ranges}
use Rattle.bench.specs.Retimings.{waits}
use Rattle.bench.proofs.Fires.{next_none}
use Rattle.bench.proofs.Listed.{ranked}
use Rattle.bench.proofs.Walking.{path_none, path_room, path_push, path_closed}
use Rattle.bench.proofs.retimed.Retimed.walk.Goals as goal

pub loop-path-init : goal.loop-path-init
loop-path-init c =
    let g : Graph = c.args.self.now.design.now.graph in
    rw c.empty-path.ensures (path_none g.count (waits g c.args.self.now.retiming.now) c.args.order.now c.args.start c.requires.start c.requires.unlisted)

pub list-requires : goal.list-requires
list-requires c =
    let g : Graph = c.args.self.now.design.now.graph in
    let few = (ranges g c.args.self.now.design.now.sound).few in
    let p = c.loop-path.invariant in
    let new = ranked c.loop-path.path c.loop-path.node c.rank_of.result false c.rank_of.ensures c.loop-path-test.ensures in
    record { room = omega (arith, few, path_room g.count (waits g c.args.self.now.retiming.now) c.args.order.now c.loop-path.path c.loop-path.node p new); node = omega (arith, few, p.below); new = new }

-- a node that cannot be listed is held by one
pub unwrap-node-requires : goal.unwrap-node-requires
unwrap-node-requires c =
    let g : Graph = c.args.self.now.design.now.graph in
    let held = next_none g.count (waits g c.args.self.now.retiming.now) c.args.order.now c.requires.stuck c.loop-path.node c.loop-path.invariant.below c.loop-path.invariant.lacks in
    ap is_some (c.held_by.ensures ∙ held.1)

pub loop-path-smaller : goal.loop-path-smaller
loop-path-smaller c =
    let g : Graph = c.args.self.now.design.now.graph in
    let p = c.loop-path.invariant in
    let room = path_room g.count (waits g c.args.self.now.retiming.now) c.args.order.now c.loop-path.path c.loop-path.node p (ranked c.loop-path.path c.loop-path.node c.rank_of.result false c.rank_of.ensures c.loop-path-test.ensures) in
    omega (arith, room, ap length c.list.ensures, length_push c.loop-path.path c.loop-path.node)

pub loop-path-preserved : goal.loop-path-preserved
loop-path-preserved c =
    let g : Graph = c.args.self.now.design.now.graph in
    rw c.list.ensures
    (path_push g.count (waits g c.args.self.now.retiming.now) c.args.order.now c.loop-path.path c.loop-path.node c.loop-path.invariant c.unwrap-node.result
    (ranked c.loop-path.path c.loop-path.node c.rank_of.result false c.rank_of.ensures c.loop-path-test.ensures) (sym c.held_by.ensures ∙ c.unwrap-node.ensures))

pub returns : goal.returns
returns c =
    let g : Graph = c.args.self.now.design.now.graph in
    path_closed g.count (waits g c.args.self.now.retiming.now) c.args.order.now c.loop-path.path c.loop-path.node c.loop-path.invariant
    (ranked c.loop-path.path c.loop-path.node c.rank_of.result true c.rank_of.ensures c.loop-path-test.ensures)
