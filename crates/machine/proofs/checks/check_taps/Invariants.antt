use Rattle.std.proofs.Common.{◌≡◌, take, None}
use Rattle.bench.specs.First.{first}
use Rattle.machine.specs.Loading.{tap_fault_in, Names}
use Rattle.machine.proofs.checks.check_taps.Given as goal

abbrev pub invariant-loop-index : goal.invariant-loop-index
invariant-loop-index l = record { none : first (tap_fault_in l.words) l.index ≡ None; names : Names (take l.index l.words) l.named }
