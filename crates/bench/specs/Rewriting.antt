-- Words to a design, to words, and to a design again.
use Rattle.std.specs.Prelude.{◌≡◌, ℕ, ◌<◌, ◌≤◌, List, length, Some, None, Err, Result, MatchResult}
use Rattle.words.specs.declared.faults.Fault.{Fault}
use Rattle.words.specs.declared.graph.Graph.{Graph}
use Rattle.words.specs.declared.design.Design.{Design}
use Rattle.words.specs.Designs.{InRange}
use Rattle.words.specs.Encoding.{encoded}
use Rattle.words.specs.Questions.{refused}
use Rattle.bench.specs.Buffers.{overlaid}
use Rattle.bench.specs.Refusals.{too_short}

-- Words are read, their design is written over the copy, and the copy is read. Accepted words stand in the copy unchanged, and what is read
-- from there is their design. What is refused leaves the copy as it was.
pub record Rewritten (words before after : List ℕ) (r : Result Design Fault) : Type 0 where
  pub refuses : (f : Fault) → refused words ≡ Some f → (r ≡ Err f) × (after ≡ before)
  pub short : refused words ≡ None → length before < length words → (r ≡ Err (too_short (length before) (length words))) × (after ≡ before)
  pub unchanged : refused words ≡ None → length words ≤ length before → after ≡ overlaid before 0 words
  pub same : refused words ≡ None → length words ≤ length before →
      MatchResult r (λ d. (g : Graph) → InRange g → encoded g ≡ words → d.graph ≡ g) (λ _. ⊥)
