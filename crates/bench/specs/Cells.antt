-- What the words of an array program amount to: lines, and cells with their taps.
use Rattle.std.specs.Prelude.{◌≡◌, ℕ, ◌<◌, List, [], ◌∷◌, ◌++◌, map, length, Some}
use Rattle.std.specs.List.{All, AllPairs, Contains, range_with_len}
use Rattle.words.specs.declared.graph.Graph.{Graph}
use Rattle.words.specs.Designs.{node_at, input}
use Rattle.words.specs.declared.program_table.Tap.{Tap}
use Rattle.words.specs.declared.program_table.Cell.{Cell}
use Rattle.words.specs.ProgramEncoding.{cell_words}
use Rattle.words.specs.Programs.{array_word, line_word, array_output_word, array_end_word}
use Rattle.bench.specs.declared.retiming.Retiming.{Retiming}
use Rattle.bench.specs.Orders.{Fires}
use Rattle.bench.specs.Programs.{line_length}
use Rattle.bench.specs.Retimings.{lag_at, current_delay, output_delay, order}

-- node i's taps: one for each current feed, at its delay, ascending by source, and no other
pub record Taps (g : Graph) (p : Retiming) (i : ℕ) (taps : List Tap) : Type 0 where
  pub each : (j d : ℕ) → current_delay g p i j ≡ Some d → Contains taps (record { source = j; delay = d })
  pub only : All (λ t. current_delay g p i t.source ≡ Some t.delay) taps
  pub ascending : AllPairs (λ s t. s.source < t.source) taps

-- a bench's cells: each node once, at its rank in the firing order, with its operation, its lag and its taps
pub record Cells (g : Graph) (p : Retiming) (cells : List Cell) : Type 0 where
  pub ranked : map (λ (c : Cell). c.node) cells ≡ order g p
  pub once : Fires g p (map (λ (c : Cell). c.node) cells)
  pub labelled : All (λ (c : Cell). (c.operation ≡ (node_at g c.node).operation) × (c.lag ≡ lag_at p c.node)) cells
  pub tapped : All (λ (c : Cell). Taps g p c.node c.taps.items) cells

-- the word of source j's line
abbrev pub word_of_line : Graph → Retiming → ℕ → ℕ
word_of_line g p j = line_word j (line_length g p j)

-- words that list a bench's cells: a head, a line for each node and for the input, the cells, the output, an end that counts the words, and no other
pub record ListsCells (g : Graph) (p : Retiming) (words : List ℕ) : Type 0 where
  pub cells : List Cell
  pub are : Cells g p cells
  pub listed :
      words
      ≡ array_word g.count p.factor
      ∷ (map (word_of_line g p) (range_with_len 0 g.count ++ input ∷ [])
      ++ (cell_words cells ++ array_output_word g.output.node (output_delay g p) ∷ array_end_word (length words) ∷ []))
