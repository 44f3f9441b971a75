-- Arrays that are alike, and the program of a design that is slowed and lagged.
use Rattle.std.specs.Prelude.{◌≡◌, ℕ, ◌<◌, true}
use Rattle.std.specs.List.{All}
use Rattle.words.specs.declared.graph.Graph.{Graph}
use Rattle.words.specs.declared.program_table.Cell.{Cell}
use Rattle.words.specs.declared.program_table.ProgramTable.{ProgramTable}
use Rattle.words.specs.Designs.{node_at, is_source, sources}
use Rattle.words.specs.ProgramDrafts.{nodes_of}
use Rattle.bench.specs.declared.retiming.Retiming.{Retiming}
use Rattle.bench.specs.Programs.{line_length}
use Rattle.bench.specs.Retimings.{lag_at, current_delay, output_delay, order}
use Rattle.machine.specs.Arrays.{Array}
use Rattle.machine.specs.Steps.{line_long}
use Rattle.bench.specs.Tables.{taps_to}

-- Two arrays are alike if they have as many cells, cell by cell the same operation, lag and taps, and the same output.
pub record Alike (a b : Array) : Type 0 where
  pub count : a.count ≡ b.count
  pub operation : (i : ℕ) → i < a.count → a.operation i ≡ b.operation i
  pub lag : (i : ℕ) → i < a.count → a.lag i ≡ b.lag i
  pub taps : (i : ℕ) → i < a.count → a.taps i ≡ b.taps i
  pub output : a.output ≡ b.output
  pub output_delay : a.output_delay ≡ b.output_delay

-- a cell is that of its node, in a design that is slowed and lagged: its taps are the node's feeds at their current delays
pub record CellOf (g : Graph) (p : Retiming) (cell : Cell) : Type 0 where
  pub node : cell.node < g.count
  pub operation : cell.operation ≡ (node_at g cell.node).operation
  pub lag : cell.lag ≡ lag_at p cell.node
  pub taps : cell.taps.items ≡ taps_to (current_delay g p cell.node) sources

-- a program is that of a design that is slowed and lagged: its cells stand in firing order, and its lines are as long as their sources are read
pub record ProgramOf (g : Graph) (p : Retiming) (t : ProgramTable) : Type 0 where
  pub count : t.count ≡ g.count
  pub factor : t.factor ≡ p.factor
  pub lines : (j : ℕ) → is_source g.count j ≡ true → line_long g.count t.lines.items j ≡ line_length g p j
  pub order : nodes_of t.cells.items ≡ order g p
  pub cells : All (CellOf g p) t.cells.items
  pub output : t.output.source ≡ g.output.node
  pub output_delay : t.output.delay ≡ output_delay g p
