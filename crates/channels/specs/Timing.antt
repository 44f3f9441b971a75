-- The timing promise: an array program gives its source design's outputs at the cycles that its bench answers.
use Rattle.std.specs.Prelude.{◌≡◌, ◌≢◌, ℕ, ◌+◌, ◌*◌, ◌<◌, ◌≤◌, true, List, [], ◌∷◌, ◌++◌, length, pos, Some, None, Option}
use Rattle.std.specs.List.{All, AllPairs, slice_get}
use Rattle.words.specs.declared.graph.Graph.{Graph}
use Rattle.words.specs.declared.program_table.Cell.{Cell}
use Rattle.words.specs.declared.program_table.ProgramTable.{ProgramTable}
use Rattle.words.specs.Designs.{InRange}
use Rattle.words.specs.ProgramDrafts.{nodes_of}
use Rattle.words.specs.ProgramEncoding.{encoded_program}
use Rattle.words.specs.ProgramTables.{ProgramInRange}
use Rattle.bench.specs.declared.calls.Call.{Call}
use Rattle.bench.specs.declared.calls.Call.TheVariants.{Settle}
use Rattle.bench.specs.Calls.{Move, moves, product, shifted, last_accepted, ended}
use Rattle.bench.specs.Cycles.{WellDefined}
use Rattle.bench.specs.Firing.{has}
use Rattle.bench.specs.Programs.{program}
use Rattle.bench.specs.Retimings.{at_rest, latency}
use Rattle.cells.specs.Meaning.{Meaning}
use Rattle.machine.specs.Buffers.{rest_in}
use Rattle.machine.specs.Loads.{load_fault}
use Rattle.machine.specs.Values.{Solves, Determined, output}
use Rattle.channels.specs.declared.events.Event.{Event}
use Rattle.channels.specs.Events.{State, Ran, StepAt, BeginsWith}

-- Of the moves that were accepted, in order: K, in the program's head and as it is answered, is the product of all their factors. Each node has a
-- cell, and the lag in a node's cell is the sum of the node's shifts, each times the factors accepted after it. L, as it is answered, is the lag
-- of the output's node.
pub record FactorsAndLags (g : Graph) (accepted : List Move) (t : ProgramTable) (K L : ℕ) : Type 0 where
  pub head : t.factor ≡ K
  pub factor : K ≡ product accepted
  pub nodes : (i : ℕ) → i < g.count → has (nodes_of t.cells.items) i ≡ true
  pub lags : All (λ (cell : Cell). (cell.node < g.count) × (pos cell.lag ≡ shifted cell.node accepted)) t.cells.items
  pub latency : pos L ≡ shifted g.output.node accepted

-- the input that channel r of K gets: the elements of the cycles K × t + r
abbrev pub channel : {E : Type 0} → ℕ → ℕ → (ℕ → E) → ℕ → E
channel K r x t = x (K * t + r)

-- Of a list of starts and steps on a machine, with so many registers given, and of their answers: an accepted step at cycle K × t + r + L, with
-- r < K, answers y(t) of the source design, for the rest row of the last accepted start and the input of channel r alone. The design's values on
-- that input are determined. The cycle is the number of steps accepted since that start. How the input goes on after this step plays no part.
abbrev pub ChannelsAnswer : {E A : Type 0} → Graph → ProgramTable → ℕ → ℕ → Meaning E A → ℕ → List (Event E) → List (Option E) → Type 0
ChannelsAnswer {E} g t K L m given events answers =
    (k : ℕ) (rest inputs : List E) (input : E) → StepAt t given events k rest inputs input →
    (time r : ℕ) → r < K → length inputs ≡ K * time + r + L →
    (d : E) (x : ℕ → E) → BeginsWith x (inputs ++ input ∷ []) →
    Determined g m (rest_in g.count rest d) (channel K r x)
    × ((v : ℕ → ℕ → E) → Solves g m (rest_in g.count rest d) (channel K r x) v →
    slice_get answers k ≡ Some (Some (output g (rest_in g.count rest d) v time)))

-- By the program's own taps no node hears a node, itself included, at delay 0, and no source is heard by two nodes at the same delay.
pub record SystolicProgram (t : ProgramTable) : Type 0 where
  pub from_nodes : All (λ (cell : Cell). All (λ tap. tap.source < t.count → 1 ≤ tap.delay) cell.taps.items) t.cells.items
  pub apart : AllPairs (λ (cell other : Cell). All (λ tap. All (λ heard. heard.source ≡ tap.source → heard.delay ≢ tap.delay) other.taps.items) cell.taps.items) t.cells.items

-- The timing promise, of a design g, a list of bench calls on it, the program t that is emitted after them, the K and L that are answered, any
-- meaning of the cells, and any list of starts and steps on one machine with one row of registers, with their answers. Refused calls, starts and
-- steps may be among them.
pub record Timing {E A : Type 0} (g : Graph) (calls : List Call) (t : ProgramTable) (K L : ℕ) (m : Meaning E A) (given : ℕ) (events : List (Event E)) (answers : List (Option E)) : Type 0 where
  pub factors_and_lags : FactorsAndLags g (moves g at_rest calls) t K L
  pub channels : ChannelsAnswer g t K L m given events answers
  pub settled : last_accepted g at_rest calls ≡ Some Settle → SystolicProgram t

-- It holds of every well-defined design, every list of calls, the program whose words are then emitted, the K and L that are then answered, every
-- meaning, and every run of a machine on that program that was just loaded, whatever its registers hold.
abbrev pub TimingHolds : Type 0 → Type 0 → Type 0
TimingHolds E A =
    (g : Graph) → InRange g → WellDefined g → (calls : List Call) →
    (t : ProgramTable) → ProgramInRange t → encoded_program t ≡ program g (ended g at_rest calls) →
    (m : Meaning E A) (first last : State E) → first.cycle ≡ 0 → (events : List (Event E)) (answers : List (Option E)) → Ran t m first events answers last →
    Timing g calls t (ended g at_rest calls).factor (latency g (ended g at_rest calls)) m (length first.row) events answers

-- And load accepts what any well-defined design's bench emits after any list of calls.
abbrev pub EmittedLoads : Type 0
EmittedLoads = (g : Graph) → InRange g → WellDefined g → (calls : List Call) → load_fault (program g (ended g at_rest calls)) ≡ None
