-- The lag of a source that is a node.
use Rattle.std.proofs.Common.{◌≡◌, ℕ, ◌<◌, arith}
use Rattle.std.proofs.lemmas.Bool.{cond-false, ne_eqb}
use Rattle.words.specs.Designs.{max_nodes, input}
use Rattle.bench.specs.declared.retiming.Retiming.{Retiming}
use Rattle.bench.specs.Retimings.{source_lag, lag_at}

pub source_node : (p : Retiming) (j : ℕ) → j < max_nodes → source_lag p j ≡ lag_at p j
source_node p j l = cond-false _ _ _ (ne_eqb j input (λ e. omega arith))
