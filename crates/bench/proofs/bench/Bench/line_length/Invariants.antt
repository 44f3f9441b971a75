use Rattle.std.proofs.Common.{◌≡◌}
use Rattle.bench.specs.Programs.{reach}
use Rattle.bench.proofs.bench.Bench.line_length.Given as goal

-- how far back the output and the nodes so far read the source
abbrev pub invariant-loop-node : goal.invariant-loop-node
invariant-loop-node l = l.length ≡ reach l.self.design.graph l.self.retiming l.source l.node
