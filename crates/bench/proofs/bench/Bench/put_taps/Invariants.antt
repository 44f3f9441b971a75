use Rattle.std.proofs.Common.{◌≡◌, ◌++◌}
use Rattle.bench.specs.Programs.{taps}
use Rattle.bench.proofs.bench.Bench.put_taps.Given as goal

abbrev pub invariant-loop-source : goal.invariant-loop-source
invariant-loop-source l = l.program.items ≡ l.initial.program.items ++ taps l.self.design.graph l.self.retiming l.node l.source
