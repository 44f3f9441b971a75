use Rattle.std.proofs.Common.{◌≡◌, ◌++◌}
use Rattle.bench.specs.Programs.{cells}
use Rattle.bench.proofs.bench.Bench.put_cells.Given as goal

abbrev pub invariant-loop-node : goal.invariant-loop-node
invariant-loop-node l = l.program.items ≡ l.initial.program.items ++ cells l.self.design.graph l.self.retiming l.node-index
