use Rattle.bench.proofs.Listed.{kept_grown}
use Rattle.bench.proofs.order.Order.list.Goals as goal

pub invariant_of-self : goal.invariant_of-self
invariant_of-self c =
    kept_grown c.self.inside.nodes c.self.inside.ranks c.self.inside.count c.self.invariant (rw c.self.view_is c.requires.room) c.args.node c.requires.node (rw c.self.view_is c.requires.new)
