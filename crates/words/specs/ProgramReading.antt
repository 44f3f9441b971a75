-- What reading a list of program words promises.
use Rattle.std.specs.Prelude.{◌≡◌, ℕ, List, None, Result, MatchResult}
use Rattle.words.specs.declared.faults.Fault.{Fault}
use Rattle.words.specs.declared.program_table.ProgramTable.{ProgramTable}
use Rattle.words.specs.declared.program.Program.{Program}
use Rattle.words.specs.ProgramTables.{ProgramInRange}
use Rattle.words.specs.ProgramEncoding.{encoded_program}
use Rattle.words.specs.ProgramQuestions.{program_format, program_refused}
use Rattle.words.specs.Readings.{RefusesIn}

-- reading refuses by the first question answered no
abbrev pub ProgramRefuses : List ℕ → Fault → Type 0
ProgramRefuses = RefusesIn ProgramInRange encoded_program program_format

-- The answer: where no question is answered no, the program whose encoding the words are, and else the refusal.
abbrev pub ProgramReads : List ℕ → Result Program Fault → Type 0
ProgramReads words r = MatchResult r (λ p. (program_refused words ≡ None) × (encoded_program p.table ≡ words)) (ProgramRefuses words)

-- Every encoding of a program in range is read as that program.
abbrev pub ProgramReadsBack : List ℕ → Result Program Fault → Type 0
ProgramReadsBack words r = (p : ProgramTable) → ProgramInRange p → encoded_program p ≡ words → MatchResult r (λ q. q.table ≡ p) (λ _. ⊥)
