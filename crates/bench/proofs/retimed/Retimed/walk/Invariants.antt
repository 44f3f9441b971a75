use Rattle.std.proofs.Common.{◌-◌, length}
use Rattle.bench.specs.Retimings.{waits}
use Rattle.bench.proofs.Walking.{Path}
use Rattle.bench.proofs.retimed.Retimed.walk.Given as goal

abbrev pub invariant-loop-path : goal.invariant-loop-path
invariant-loop-path l = Path l.self.design.now.graph.count (waits l.self.design.now.graph l.self.retiming.now) l.order l.path l.node

abbrev pub decreases-loop-path : goal.decreases-loop-path
decreases-loop-path l = l.self.design.now.graph.count - length l.path
