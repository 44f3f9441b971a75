-- A design as the simulator fires it.
use Rattle.std.specs.Prelude.{◌≡◌, ℕ, ◌<◌, ◌≤◌, true, List, length, take, slice_index, slice_index_or}
use Rattle.std.specs.List.{AllByRecursion}
use Rattle.words.specs.declared.graph.Graph.{Graph}
use Rattle.words.specs.Designs.{node_at, is_source, sources}
use Rattle.words.specs.declared.program_table.Tap.{Tap}
use Rattle.machine.specs.declared.cell.Cell.{Cell}
use Rattle.machine.specs.Values.{taps_of}

-- the taps of a cell
abbrev pub taps_in : Cell → List Tap
taps_in cell = take cell.count cell.taps

-- a cell fires node i of a design
pub record Planned (g : Graph) (i : ℕ) (cell : Cell) : Type 0 where
  pub node : cell.node ≡ i
  pub operation : cell.operation ≡ (node_at g i).operation
  pub taps : taps_in cell ≡ taps_of g i
  pub table : length cell.taps ≡ sources
  pub few : cell.count ≤ sources

-- the cells of a plan fire all nodes of a design, in an order
pub record Whole (g : Graph) (order : List ℕ) (plan : List Cell) : Type 0 where
  pub count : length plan ≡ g.count
  pub cells : (k : ℕ) (d : Cell) → k < g.count → Planned g (slice_index order k) (slice_index_or plan k d)

-- a cell that can fire among n nodes: its node is one of them, and its taps hear them or the input
pub record Ready (n : ℕ) (cell : Cell) : Type 0 where
  pub node : cell.node < n
  pub table : length cell.taps ≡ sources
  pub few : cell.count ≤ sources
  pub taps : AllByRecursion (λ tap. is_source n tap.source ≡ true) (taps_in cell)
