use Rattle.std.proofs.Common.{◌≡◌, get_or, None}
use Rattle.bench.specs.First.{first}
use Rattle.bench.specs.Moves.{feed_fault}
use Rattle.bench.proofs.delays.Moved.check_node.Given as goal

abbrev pub invariant-loop-source : goal.invariant-loop-source
invariant-loop-source l = first (λ j. feed_fault l.self.retiming l.number j (get_or l.node.feeds j None)) l.source ≡ None
