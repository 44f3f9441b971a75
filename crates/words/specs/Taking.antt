-- What the reader promises at each word, of the words before it.
use Rattle.std.specs.Prelude.{ℕ, List, Result, MatchResult}
use Rattle.words.specs.declared.faults.WordsQuestion.{WordsQuestion}
use Rattle.words.specs.Designs.{InRange}
use Rattle.words.specs.Encoding.{encoded}
use Rattle.words.specs.Questions.{design_format}
use Rattle.words.specs.Readings.{PassedIn, FailedIn, FailedAmong, EndsIn}

-- one word more, which passes every question: the words with it begin a design
abbrev pub Passed : List ℕ → ℕ → List ℕ → Type 0
Passed = PassedIn InRange encoded design_format

-- the question that is answered no at a word
abbrev pub Failed : List ℕ → ℕ → WordsQuestion → Type 0
Failed = FailedIn design_format

-- a word taken
abbrev pub Taken : List ℕ → List ℕ → ℕ → Result (Unit {0}) WordsQuestion → Type 0
Taken before with_it w r = MatchResult r (λ _. Passed before w with_it) (Failed before w)

-- the end read, as the last of so many words, or the question that is answered no there
abbrev pub Ended : List ℕ → ℕ → ℕ → Result (Unit {0}) WordsQuestion → Type 0
Ended before w given r = MatchResult r (λ _. EndsIn design_format before w given) (FailedAmong design_format given before w)
