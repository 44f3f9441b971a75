-- What starting a machine writes and refuses.
use Rattle.std.specs.Prelude.{ℕ, List, [], ◌∷◌, ◌++◌, length, take, replicate, Option}
use Rattle.words.specs.declared.faults.Fault.{Fault}
use Rattle.words.specs.declared.program_table.ProgramTable.{ProgramTable}
use Rattle.machine.specs.Refusals.{start_fault}
use Rattle.machine.specs.Steps.{needed}

-- every line filled with its source's rest value
unfoldable pub lines_at_rest : {E : Type 0} → List ℕ → List E → List E
lines_at_rest [] rest = []
lines_at_rest (l ∷ ls) [] = []
lines_at_rest (l ∷ ls) (r ∷ rs) = replicate l r ++ lines_at_rest ls rs

-- the registers of a program at rest: its lines, then the present values of its nodes
abbrev pub registers_at_rest : {E : Type 0} → ProgramTable → List E → List E
registers_at_rest p rest = lines_at_rest p.lines.items rest ++ take p.count rest

-- the first of start's questions that is answered no
abbrev pub start_refusal : {E : Type 0} → ProgramTable → List E → List E → Option Fault
start_refusal p rest registers = start_fault p.count (needed p.count p.lines.items) (length rest) (length registers)
