use Rattle.std.proofs.Common.{◌≡◌, ◌++◌}
use Rattle.bench.specs.Programs.{in_turn, line_at}
use Rattle.bench.proofs.bench.Bench.put_lines.Given as goal

abbrev pub invariant-loop-node : goal.invariant-loop-node
invariant-loop-node l = l.program.items ≡ l.initial.program.items ++ in_turn (line_at l.self.design.graph l.self.retiming) l.node
