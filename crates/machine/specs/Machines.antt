-- What one call of a machine answers and leaves: a start and a step.
use Rattle.std.specs.Prelude.{◌≡◌, ℕ, ◌+◌, List, length, drop, Some, None, Ok, Err, Option, Result}
use Rattle.words.specs.declared.faults.Fault.{Fault}
use Rattle.words.specs.declared.program_table.ProgramTable.{ProgramTable}
use Rattle.cells.specs.Meaning.{Meaning}
use Rattle.machine.specs.Arrays.{array_in}
use Rattle.machine.specs.Buffers.{rest_in}
use Rattle.machine.specs.Refusals.{step_fault}
use Rattle.machine.specs.Starting.{start_refusal}
use Rattle.machine.specs.Steps.{Registers, registers_in, needed, AtRest, Steps}

-- how many registers a program needs
abbrev pub registers_needed : ProgramTable → ℕ
registers_needed t = needed t.count t.lines.items

-- the registers of a program, as they stand in a row
abbrev pub registers_of : {E : Type 0} → ProgramTable → List E → E → Registers E
registers_of t row d = registers_in t.count t.lines.items row d

-- all registers of a row past those that a program needs are as they were
pub record PastKept {E : Type 0} (t : ProgramTable) (before after : List E) : Type 0 where
  pub long : length after ≡ length before
  pub past : drop (registers_needed t) after ≡ drop (registers_needed t) before

-- An accepted start fills the registers with the rest values of a row.
pub record Started {E : Type 0} (t : ProgramTable) (rest before after : List E) : Type 0 where
  pub filled : (d : E) → AtRest (array_in t) t.lines.items (rest_in t.count rest d) (registers_of t after d)
  pub kept : PastKept t before after

-- An accepted step makes a step of the program's array, at a cycle, from the input element x to the element y that is put out.
pub record Stepped {E A : Type 0} (t : ProgramTable) (m : Meaning E A) (cycle : ℕ) (x : E) (before after : List E) (y : E) : Type 0 where
  pub steps : (d : E) → Steps (array_in t) t.lines.items m cycle x (registers_of t before d) (registers_of t after d) y
  pub kept : PastKept t before after

-- the first of step's questions that is answered no
abbrev pub step_refusal : {E : Type 0} → ProgramTable → List E → ℕ → Option Fault
step_refusal t registers cycle = step_fault (registers_needed t) (length registers) cycle

-- A start, from one cycle to another: the first of its questions that is answered no, and then nothing is changed; else the registers are
-- filled, and the cycle is 0.
pub record StartAnswers {E : Type 0} (t : ProgramTable) (rest before after : List E) (cycle next : ℕ) (r : Result (Unit {0}) Fault) : Type 0 where
  pub refuses : (f : Fault) → start_refusal t rest before ≡ Some f → (r ≡ Err f) × (after ≡ before) × (next ≡ cycle)
  pub starts : start_refusal t rest before ≡ None → (r ≡ Ok (tt {0})) × Started t rest before after × (next ≡ 0)

-- A step, from one cycle to the next: the first of its questions that is answered no, and then nothing is changed and no cycle is used; else
-- what is put out, and the cycle has risen by one.
pub record StepAnswers {E A : Type 0} (t : ProgramTable) (m : Meaning E A) (x : E) (before after : List E) (cycle next : ℕ) (r : Result E Fault) : Type 0 where
  pub refuses : (f : Fault) → step_refusal t before cycle ≡ Some f → (r ≡ Err f) × (after ≡ before) × (next ≡ cycle)
  pub steps : step_refusal t before cycle ≡ None → (y : E) × (r ≡ Ok y) × Stepped t m cycle x before after y × (next ≡ cycle + 1)
