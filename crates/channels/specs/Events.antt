-- Starts and steps on one machine with one row of registers: what they lead to, and what the machine was told by them.
use Rattle.std.specs.Prelude.{◌≡◌, ℕ, List, [], ◌∷◌, ◌++◌, length, take, Some, None, Option, Result}
use Rattle.std.specs.List.{fold, slice_get}
use Rattle.std.specs.Result.{result_ok}
use Rattle.words.specs.declared.faults.Fault.{Fault}
use Rattle.words.specs.declared.program_table.ProgramTable.{ProgramTable}
use Rattle.words.specs.ProgramEncoding.{encoded_program}
use Rattle.words.specs.ProgramTables.{ProgramInRange}
use Rattle.bench.specs.Refusals.{unless_kept}
use Rattle.cells.specs.Meaning.{Meaning}
use Rattle.machine.specs.Arrays.{array_in, ArrayDetermined, Runs, put_out}
use Rattle.machine.specs.Buffers.{rest_in}
use Rattle.machine.specs.Loads.{load_fault}
use Rattle.machine.specs.Machines.{registers_needed, StartAnswers, StepAnswers}
use Rattle.machine.specs.Refusals.{start_fault, step_fault}
use Rattle.channels.specs.declared.events.Event.{Event}
use Rattle.channels.specs.declared.events.Event.TheVariants.{Start, Step}

-- how a machine stands: its cycle, and what its registers' row holds
pub record State (E : Type 0) : Type 0 where
  pub cycle : ℕ
  pub row : List E

abbrev pub state : {E : Type 0} → ℕ → List E → State E
state cycle row = record { cycle = cycle; row = row }

-- One event leads from one state to the next, and is answered: an accepted step by the element that is put out, any other event by none.
abbrev pub Happens : {E A : Type 0} → ProgramTable → Meaning E A → Event E → State E → Option E → State E → Type 0
Happens t m (Start rest) before answer after =
    (r : Result (Unit {0}) Fault) × StartAnswers t rest.now before.row after.row before.cycle after.cycle r × (answer ≡ None)
Happens {E} t m (Step input) before answer after =
    (r : Result E Fault) × StepAnswers t m input before.row after.row before.cycle after.cycle r × (answer ≡ result_ok r)

-- a list of events leads from the first state to the last, with an answer for each
unfoldable pub Ran : {E A : Type 0} → ProgramTable → Meaning E A → State E → List (Event E) → List (Option E) → State E → Type 0
Ran t m first [] answers last = (answers ≡ []) × (last ≡ first)
Ran {E} t m first (event ∷ events) answers last =
    (answer : Option E) × (later : List (Option E)) × (next : State E) × (answers ≡ answer ∷ later) × Happens t m event first answer next × Ran t m next events later last

-- What a machine was told: the rest row of the last accepted start, if there was one, and the inputs of the steps accepted since, in order. So
-- its cycle is the number of these inputs.
pub record Told (E : Type 0) : Type 0 where
  pub rest : Option (List E)
  pub inputs : List E

abbrev pub nothing : {E : Type 0} → Told E
nothing = record { rest = None; inputs = [] }

-- one event more, where so many registers are given: a refused one uses no cycle and changes nothing
abbrev pub tell : {E : Type 0} → ProgramTable → ℕ → Told E → Event E → Told E
tell t given told (Start rest) =
    unless_kept (start_fault t.count (registers_needed t) (length rest.now) given) (record { rest = Some rest.now; inputs = [] }) told
tell t given told (Step input) =
    unless_kept (step_fault (registers_needed t) given (length told.inputs)) (record { rest = told.rest; inputs = told.inputs ++ input ∷ [] }) told

-- what a machine that was just loaded was told by a list of events
abbrev pub told_by : {E : Type 0} → ProgramTable → ℕ → List (Event E) → Told E
told_by t given events = fold (tell t given) nothing events

-- Event k is a step on an input, and is accepted. The rest row is that of the last accepted start before it, and the inputs are those of the
-- steps accepted since.
pub record StepAt {E : Type 0} (t : ProgramTable) (given : ℕ) (events : List (Event E)) (k : ℕ) (rest inputs : List E) (input : E) : Type 0 where
  pub event : slice_get events k ≡ Some (Step input)
  pub started : (told_by t given (take k events)).rest ≡ Some rest
  pub taken : (told_by t given (take k events)).inputs ≡ inputs
  pub accepted : step_fault (registers_needed t) given (length inputs) ≡ None

-- an input in time that begins with these elements
abbrev pub BeginsWith : {E : Type 0} → (ℕ → E) → List E → Type 0
BeginsWith {E} x elements = (τ : ℕ) (y : E) → slice_get elements τ ≡ Some y → x τ ≡ y

-- The law of a whole run: from the first accepted start on, what a machine puts out is what each history of its program's array puts out, from the
-- rest row of the last accepted start, on any input that begins with the elements taken since.
abbrev pub PutsOutHistories : {E A : Type 0} → ProgramTable → Meaning E A → ℕ → List (Event E) → List (Option E) → Type 0
PutsOutHistories {E} t m given events answers =
    (k : ℕ) (rest inputs : List E) (input : E) → StepAt t given events k rest inputs input →
    (d : E) (x : ℕ → E) → BeginsWith x (inputs ++ input ∷ []) → (u : ℕ → ℕ → E) → Runs (array_in t) m (rest_in t.count rest d) x u →
    slice_get answers k ≡ Some (Some (put_out (array_in t) (rest_in t.count rest d) u (length inputs)))

-- The law holds of every program that load accepts, of every meaning, and of every run of a machine on that program that was just loaded. The array
-- of such a program has one history from each rest row on each input: each cell is at rest before its lag, and computes from then on.
abbrev pub RunsPutOut : Type 0 → Type 0 → Type 0
RunsPutOut E A =
    (t : ProgramTable) → ProgramInRange t → load_fault (encoded_program t) ≡ None → (m : Meaning E A) →
    ((rest x : ℕ → E) → ArrayDetermined (array_in t) m rest x)
    × ((first last : State E) → first.cycle ≡ 0 → (events : List (Event E)) (answers : List (Option E)) → Ran t m first events answers last →
    PutsOutHistories t m (length first.row) events answers)
