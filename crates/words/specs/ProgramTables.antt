-- What an array program is: its numbers and their ranges.
use Rattle.std.specs.Prelude.{◌≡◌, ℕ, ◌+◌, ◌<◌, ◌≤◌, true, ◌≢◌, length}
use Rattle.std.specs.List.{All, AllPairs}
use Rattle.words.specs.declared.program_table.Tap.{Tap}
use Rattle.words.specs.declared.program_table.Cell.{Cell}
use Rattle.words.specs.declared.program_table.ProgramTable.{ProgramTable}
use Rattle.words.specs.Designs.{is_source, max_nodes, byte}

-- the limits of K, of lags, and of delays and the lines that hold them
abbrev pub max_factor : ℕ
max_factor = 64

abbrev pub max_lag : ℕ
max_lag = 4095

abbrev pub max_delay : ℕ
max_delay = 4095

-- a tap in a program of n nodes: it hears one of them or the input
pub record TapInRange (n : ℕ) (tap : Tap) : Type 0 where
  pub source : is_source n tap.source ≡ true
  pub delay : tap.delay ≤ max_delay

-- a cell in a program of n nodes; its taps are in ascending order of source
pub record CellInRange (n : ℕ) (cell : Cell) : Type 0 where
  pub node : cell.node < n
  pub operation : cell.operation < byte
  pub lag : cell.lag ≤ max_lag
  pub taps : All (TapInRange n) cell.taps.items
  pub ascending : AllPairs (λ s t. s.source < t.source) cell.taps.items

-- a program's fields are in range: a line for each node and for the input, and one cell for each node
pub record ProgramInRange (p : ProgramTable) : Type 0 where
  pub some : 1 ≤ p.count
  pub few : p.count ≤ max_nodes
  pub slowed : 1 ≤ p.factor
  pub slow : p.factor ≤ max_factor
  pub lines : length p.lines.items ≡ p.count + 1
  pub lengths : All (λ l. l ≤ max_delay) p.lines.items
  pub cells : length p.cells.items ≡ p.count
  pub ranges : All (CellInRange p.count) p.cells.items
  pub apart : AllPairs (λ c d. c.node ≢ d.node) p.cells.items
  pub output_node : p.output.source < p.count
  pub output_delay : p.output.delay ≤ max_delay
