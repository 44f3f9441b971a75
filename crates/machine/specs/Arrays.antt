-- An array in time: what its cells hold at each cycle, and how its channels are timed.
use Rattle.std.specs.Prelude.{◌≡◌, ℕ, ◌+◌, ◌*◌, ◌<◌, ◌≤◌, true, List, map, slice_index_or}
use Rattle.std.specs.List.{All}
use Rattle.words.specs.declared.graph.Graph.{Graph}
use Rattle.words.specs.Designs.{node_at, is_source, max_nodes, sources}
use Rattle.bench.specs.declared.retiming.Retiming.{Retiming}
use Rattle.bench.specs.Retimings.{lag_at, current_delay, output_delay, latency}
use Rattle.cells.specs.Meaning.{Meaning, applied}
use Rattle.words.specs.declared.program_table.Tap.{Tap}
use Rattle.words.specs.declared.program_table.Cell.{Cell}
use Rattle.words.specs.declared.program_table.ProgramTable.{ProgramTable}
use Rattle.words.specs.ProgramDrafts.{nodes_of, no_cell}
use Rattle.bench.specs.Firing.{place_in}
use Rattle.machine.specs.Values.{past, heard, operand, Solves, output}
use Rattle.bench.specs.Tables.{taps_to}

-- An array of n cells, one for each node: its operation, the cycle at which it begins to compute, and its taps. The output's node, and how
-- long before it is read.
pub record Array : Type 0 where
  pub count : ℕ
  pub operation : ℕ → ℕ
  pub lag : ℕ → ℕ
  pub taps : ℕ → List Tap
  pub output : ℕ
  pub output_delay : ℕ

-- the array of a design that is slowed and lagged: taps at its current delays
abbrev pub array_of : Graph → Retiming → Array
array_of g p = record {
  count = g.count;
  operation = λ i. (node_at g i).operation;
  lag = lag_at p;
  taps = λ i. taps_to (current_delay g p i) sources;
  output = g.output.node;
  output_delay = output_delay g p;
}

-- where the cell of a node stands in a program
abbrev pub rank_in : ProgramTable → ℕ → ℕ
rank_in p = place_in (nodes_of p.cells.items)

-- the cell of a node
abbrev pub cell_of : ProgramTable → ℕ → Cell
cell_of p i = slice_index_or p.cells.items (rank_in p i) no_cell

-- the array of a program
abbrev pub array_in : ProgramTable → Array
array_in p = record {
  count = p.count;
  operation = λ i. (cell_of p i).operation;
  lag = λ i. (cell_of p i).lag;
  taps = λ i. (cell_of p i).taps.items;
  output = p.output.source;
  output_delay = p.output.delay;
}

-- a tap of cell i has a source, and where it hears a node at delay 0, that node's cell stands before i in the order
abbrev pub Earlier : Array → (ℕ → ℕ) → ℕ → Tap → Type 0
Earlier a rank i tap = (is_source a.count tap.source ≡ true) × (tap.source < a.count → tap.delay ≡ 0 → rank tap.source < rank i)

-- the cells of an array stand in an order in which each tap of delay 0 from a node reads an earlier cell
pub record Ordered (a : Array) (rank : ℕ → ℕ) : Type 0 where
  pub few : a.count ≤ max_nodes
  pub ranks : (i : ℕ) → i < a.count → rank i < a.count
  pub taps : (i : ℕ) → i < a.count → All (Earlier a rank i) (a.taps i)

-- A history of an array, on the input x: a cell holds its rest value before its lag, and then computes from what its taps hear.
pub record Runs {E A : Type 0} (a : Array) (m : Meaning E A) (rest x : ℕ → E) (u : ℕ → ℕ → E) : Type 0 where
  pub holds : (i τ : ℕ) → i < a.count → τ < a.lag i → u i τ ≡ rest i
  pub computes : (i τ : ℕ) → i < a.count → a.lag i ≤ τ → u i τ ≡ applied m (a.operation i) (map (operand (heard rest u x τ)) (a.taps i))

-- an array has one history and no other: there is one, and two agree
pub record ArrayDetermined {E A : Type 0} (a : Array) (m : Meaning E A) (rest x : ℕ → E) : Type 0 where
  pub history : ℕ → ℕ → E
  pub runs : Runs a m rest x history
  pub agree : (u w : ℕ → ℕ → E) → Runs a m rest x u → Runs a m rest x w → (i τ : ℕ) → i < a.count → u i τ ≡ w i τ

-- what is put out at a cycle
abbrev pub put_out : {E : Type 0} → Array → (ℕ → E) → (ℕ → ℕ → E) → ℕ → E
put_out a rest u τ = past (u a.output) (rest a.output) τ a.output_delay

-- The channels keep time: at cycle K × t + r + L the array puts out what the source design gives channel r alone at time t, on the inputs of the
-- cycles K × t + r; and at cycle K × t + r + its lag each node holds its value at t.
abbrev pub ChannelsKeepTime : {E A : Type 0} → Graph → Retiming → Meaning E A → Type 0
ChannelsKeepTime {E} g p m =
    (rest x : ℕ → E) (u : ℕ → ℕ → E) → Runs (array_of g p) m rest x u →
    (r : ℕ) → r < p.factor → (v : ℕ → ℕ → E) → Solves g m rest (λ t. x (p.factor * t + r)) v →
    ((i t : ℕ) → i < g.count → u i (p.factor * t + r + lag_at p i) ≡ v i t)
    × ((t : ℕ) → put_out (array_of g p) rest u (p.factor * t + r + latency g p) ≡ output g rest v t)
