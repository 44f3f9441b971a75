-- What reading a list of design words promises.
use Rattle.std.specs.Prelude.{◌≡◌, ℕ, List, None, Result, MatchResult}
use Rattle.words.specs.declared.faults.Fault.{Fault}
use Rattle.words.specs.declared.graph.Graph.{Graph}
use Rattle.words.specs.declared.design.Design.{Design}
use Rattle.words.specs.Designs.{InRange}
use Rattle.words.specs.Encoding.{encoded}
use Rattle.words.specs.Questions.{design_format, refused}
use Rattle.words.specs.Readings.{BeginsOne, StopsOneAt, RefusesIn}
pub use Rattle.words.specs.Refusals.{place_of}

-- some design's encoding begins with these words
abbrev pub Begins : List ℕ → Type 0
Begins = BeginsOne InRange encoded

-- where reading stops, in the format's own words
abbrev pub StopsAt : List ℕ → ℕ → Type 0
StopsAt = StopsOneAt InRange encoded

-- reading refuses by the first question answered no
abbrev pub Refuses : List ℕ → Fault → Type 0
Refuses = RefusesIn InRange encoded design_format

-- The answer: where no question is answered no, the design whose encoding the words are, and else the refusal.
abbrev pub Reads : List ℕ → Result Design Fault → Type 0
Reads words r = MatchResult r (λ d. (refused words ≡ None) × (encoded d.graph ≡ words)) (Refuses words)

-- Every encoding of a design in range is read as that design.
abbrev pub ReadsBack : List ℕ → Result Design Fault → Type 0
ReadsBack words r = (g : Graph) → InRange g → encoded g ≡ words → MatchResult r (λ d. d.graph ≡ g) (λ _. ⊥)
