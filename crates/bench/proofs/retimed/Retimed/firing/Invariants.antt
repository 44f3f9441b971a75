use Rattle.std.proofs.Common.{◌≡◌, ◌-◌, length}
use Rattle.bench.specs.Firing.{listed_after}
use Rattle.bench.specs.Retimings.{waits}
use Rattle.bench.proofs.retimed.Retimed.firing.Given as goal

abbrev pub invariant-loop-node : goal.invariant-loop-node
invariant-loop-node l = l.order ≡ listed_after l.self.design.now.graph.count (waits l.self.design.now.graph l.self.retiming.now) (length l.order)

abbrev pub decreases-loop-node : goal.decreases-loop-node
decreases-loop-node l = l.self.design.now.graph.count - length l.order
