-- What is answered of an input's bytes: the design in them, the listing of its words, or that of its program; and what is left in the text buffer.
use Rattle.std.specs.Prelude.{◌≡◌, ℕ, ◌/◌, ◌%◌, List, length, Some, None, Err, Result, MatchResult, ◌≢◌, ◌⊎◌}
use Rattle.words.specs.declared.faults.Fault.{Fault}
use Rattle.words.specs.declared.graph.Graph.{Graph}
use Rattle.words.specs.declared.design.Design.{Design}
use Rattle.words.specs.Bytes.{taken, packed}
use Rattle.words.specs.Designs.{InRange}
use Rattle.words.specs.Encoding.{encoded}
use Rattle.words.specs.Questions.{refused}
use Rattle.words.specs.Refusals.{no_word}
use Rattle.bench.specs.Buffers.{Written}
use Rattle.bench.specs.Cycles.{Cycle, AllZero, WellDefined}
use Rattle.bench.specs.Listing.{listed}
use Rattle.bench.specs.Moves.{settle_fault, moved, ranks}
use Rattle.bench.specs.Programs.{program}
use Rattle.bench.specs.Refusals.{zero_cycle}
use Rattle.bench.specs.Retimings.{at_rest}

-- Bytes left over are refused before any word is read. Then the words are read, and what reading refuses is refused. Of accepted words
-- something is made.
pub record ReadsInput (bytes : List ℕ) (Refused : Fault → Type 0) (Made : List ℕ → Type 0) : Type 0 where
  pub left_over : length (taken bytes) % 4 ≢ 0 → Refused (no_word (length (taken bytes) / 4))
  pub refuses : length (taken bytes) % 4 ≡ 0 → (f : Fault) → refused (packed (taken bytes)) ≡ Some f → Refused f
  pub made : length (taken bytes) % 4 ≡ 0 → refused (packed (taken bytes)) ≡ None → Made (packed (taken bytes))

-- Of accepted words: the design that they encode.
abbrev pub Designed : List ℕ → Result Design Fault → Type 0
Designed bytes r = ReadsInput bytes (λ f. r ≡ Err f) (λ words. MatchResult r (λ d. InRange d.graph × (encoded d.graph ≡ words)) (λ _. ⊥))

-- refused by that, and the text buffer stays as it was
abbrev pub RefusesUnchanged : List ℕ → List ℕ → Result ℕ Fault → Fault → Type 0
RefusesUnchanged before after r f = (r ≡ Err f) × (after ≡ before)

-- Of accepted words: they are listed as they were given.
abbrev pub Answered : List ℕ → List ℕ → List ℕ → Result ℕ Fault → Type 0
Answered bytes before after r = ReadsInput bytes (RefusesUnchanged before after r) (λ words. Written (listed words) before after r)

-- Of a well-defined design: it is settled from rest, and refused as settling refuses it, or its settled program is listed.
pub record Settles (g : Graph) (before after : List ℕ) (r : Result ℕ Fault) : Type 0 where
  pub refuses : (f : Fault) → settle_fault g at_rest ≡ Some f → RefusesUnchanged before after r f
  pub lists : settle_fault g at_rest ≡ None → Written (listed (program g (moved at_rest g.count (ranks g at_rest)))) before after r

-- Of any other design: it is refused by the length of a cycle of zero delays.
pub record Circles (g : Graph) (before after : List ℕ) (r : Result ℕ Fault) : Type 0 where
  pub shown : List ℕ
  pub cycle : Cycle g shown
  pub zero : AllZero g shown
  pub refuses : r ≡ Err (zero_cycle (length shown))
  pub kept : after ≡ before

-- Of accepted words: they encode a design, which either is not well-defined or is settled.
abbrev pub Programmed : List ℕ → List ℕ → List ℕ → Result ℕ Fault → Type 0
Programmed bytes before after r =
    ReadsInput bytes (RefusesUnchanged before after r)
    (λ words. (g : Graph) × InRange g × (encoded g ≡ words) × (Circles g before after r ⊎ (WellDefined g × Settles g before after r)))
