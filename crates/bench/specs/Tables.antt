-- The array program of a bench, as a table: what its words say.
use Rattle.std.specs.Prelude.{ℕ, zero, suc, ◌+◌, List, [], ◌∷◌, ◌++◌, map, Some, None, Option}
use Rattle.std.specs.List.{range_with_len}
use Rattle.words.specs.declared.graph.Graph.{Graph}
use Rattle.words.specs.declared.program_table.Tap.{Tap}
use Rattle.words.specs.declared.program_table.Cell.{Cell}
use Rattle.words.specs.declared.program_table.ProgramTable.{ProgramTable}
use Rattle.words.specs.Designs.{node_at, sources}
use Rattle.words.specs.ProgramEncoding.{line_source}
use Rattle.bench.specs.declared.retiming.Retiming.{Retiming}
use Rattle.bench.specs.Programs.{line_length}
use Rattle.bench.specs.Retimings.{lag_at, current_delay, output_delay, order}

abbrev pub tap_at : ℕ → Option ℕ → List Tap
tap_at j None = []
tap_at j (Some d) = record { source = j; delay = d } ∷ []

-- the taps of the first k sources of a row of delays, in ascending order
unfoldable pub taps_to : (ℕ → Option ℕ) → ℕ → List Tap
taps_to row zero = []
taps_to row (suc k) = taps_to row k ++ tap_at k (row k)

-- node i's cell: its taps are its feeds at their current delays
abbrev pub cell_at : Graph → Retiming → ℕ → Cell
cell_at g p i = record { node = i; operation = (node_at g i).operation; lag = lag_at p i; taps = record { items = taps_to (current_delay g p i) sources } }

-- the lengths of the lines: those of the nodes in order, then that of the input
abbrev pub line_lengths : Graph → Retiming → List ℕ
line_lengths g p = map (λ k. line_length g p (line_source g.count k)) (range_with_len 0 (g.count + 1))

-- K, a line for each source, the cells in firing order, and the output at its current delay
abbrev pub program_of : Graph → Retiming → ProgramTable
program_of g p = record {
  count = g.count;
  factor = p.factor;
  lines = record { items = line_lengths g p };
  cells = record { items = map (cell_at g p) (order g p) };
  output = record { source = g.output.node; delay = output_delay g p };
}
