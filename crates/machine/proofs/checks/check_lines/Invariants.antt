use Rattle.std.proofs.Common.{◌≡◌, None}
use Rattle.bench.specs.First.{first}
use Rattle.machine.specs.Loading.{line_fault_in}
use Rattle.machine.proofs.checks.check_lines.Given as goal

abbrev pub invariant-loop-index : goal.invariant-loop-index
invariant-loop-index l = first (line_fault_in l.words) l.index ≡ None
