-- What the reader of programs promises at each word, of the words before it.
use Rattle.std.specs.Prelude.{ℕ, List, Result, MatchResult}
use Rattle.words.specs.declared.faults.WordsQuestion.{WordsQuestion}
use Rattle.words.specs.ProgramTables.{ProgramInRange}
use Rattle.words.specs.ProgramEncoding.{encoded_program}
use Rattle.words.specs.ProgramQuestions.{program_format}
use Rattle.words.specs.Readings.{PassedIn, FailedIn, FailedAmong, EndsIn}

-- one word more, which passes every question: the words with it begin a program
abbrev pub ProgramPassed : List ℕ → ℕ → List ℕ → Type 0
ProgramPassed = PassedIn ProgramInRange encoded_program program_format

-- the question that is answered no at a word
abbrev pub ProgramFailed : List ℕ → ℕ → WordsQuestion → Type 0
ProgramFailed = FailedIn program_format

-- a word taken
abbrev pub ProgramTaken : List ℕ → List ℕ → ℕ → Result (Unit {0}) WordsQuestion → Type 0
ProgramTaken before with_it w r = MatchResult r (λ _. ProgramPassed before w with_it) (ProgramFailed before w)

-- the end read, as the last of so many words, or the question that is answered no there
abbrev pub ProgramEnded : List ℕ → ℕ → ℕ → Result (Unit {0}) WordsQuestion → Type 0
ProgramEnded before w given r = MatchResult r (λ _. EndsIn program_format before w given) (FailedAmong program_format given before w)
