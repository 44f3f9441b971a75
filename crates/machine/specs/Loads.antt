-- What loading a program promises.
use Rattle.std.specs.Prelude.{◌≡◌, ℕ, List, Some, None, Option, Result, MatchResult}
use Rattle.std.specs.Option.{option_or}
use Rattle.words.specs.declared.faults.Fault.{Fault}
use Rattle.words.specs.declared.program_table.ProgramTable.{ProgramTable}
use Rattle.words.specs.ProgramEncoding.{encoded_program}
use Rattle.words.specs.ProgramQuestions.{program_refused}
use Rattle.words.specs.ProgramTables.{ProgramInRange}
use Rattle.machine.specs.declared.machine.Machine.{Machine}
use Rattle.machine.specs.Loading.{tap_fault, line_fault}

-- 15 and 16: the first that is answered no
abbrev pub wiring_fault : List ℕ → Option Fault
wiring_fault words = option_or (tap_fault words) (line_fault words)

-- load's questions in order: 1 to 5, 15, 16
abbrev pub load_fault : List ℕ → Option Fault
load_fault words = option_or (program_refused words) (wiring_fault words)

-- The answer: where no question is answered no, a machine at cycle 0 with the program whose encoding the words are, and else the refusal.
abbrev pub Loads : List ℕ → Result Machine Fault → Type 0
Loads words r = MatchResult r (λ m. (load_fault words ≡ None) × (encoded_program m.program.table ≡ words) × (m.cycle ≡ 0)) (λ f. load_fault words ≡ Some f)

-- Every encoding of a program in range is loaded as that program, unless 15 or 16 refuses it.
abbrev pub LoadsBack : List ℕ → Result Machine Fault → Type 0
LoadsBack words r = (p : ProgramTable) → ProgramInRange p → encoded_program p ≡ words → MatchResult r (λ m. m.program.table ≡ p) (λ f. wiring_fault words ≡ Some f)
