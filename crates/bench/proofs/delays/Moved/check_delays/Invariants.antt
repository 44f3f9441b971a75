use Rattle.std.proofs.Common.{◌≡◌, None}
use Rattle.words.specs.Designs.{node_at}
use Rattle.bench.specs.First.{first}
use Rattle.bench.specs.Moves.{node_fault}
use Rattle.bench.proofs.delays.Moved.check_delays.Given as goal

abbrev pub invariant-loop-number : goal.invariant-loop-number
invariant-loop-number l = first (λ i. node_fault l.self.retiming i (node_at l.design.graph i)) l.number ≡ None
