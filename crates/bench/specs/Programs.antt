-- The array program of a bench, from its lags and current delays.
use Rattle.std.specs.Prelude.{◌≡◌, ℕ, zero, suc, ◌+◌, ◌<◌, ◌≤◌, cond, ◌⊎◌, List, [], ◌∷◌, ◌++◌, length, Some, None, Option, ◌==◌, max, slice_index}
use Rattle.std.specs.Option.{unwrap_or}
use Rattle.words.specs.declared.graph.Graph.{Graph}
use Rattle.words.specs.Designs.{node_at, sources}
use Rattle.words.specs.ProgramEncoding.{line_source}
use Rattle.words.specs.Programs.{array_word, line_word, cell_word, tap_word, array_output_word, array_end_word}
use Rattle.bench.specs.declared.retiming.Retiming.{Retiming}
use Rattle.bench.specs.Retimings.{lag_at, current_delay, output_delay, order}

-- the words of place 0, of place 1 and so on, of k places
unfoldable pub in_turn : (ℕ → List ℕ) → ℕ → List ℕ
in_turn f zero = []
in_turn f (suc k) = in_turn f k ++ f k

-- how far back the output reads source j
abbrev pub output_reach : Graph → Retiming → ℕ → ℕ
output_reach g p j = cond (g.output.node == j) (output_delay g p) 0

-- the greatest delay at which the output or a tap of the first k nodes reads source j, or 0
unfoldable pub reach : Graph → Retiming → ℕ → ℕ → ℕ
reach g p j zero = output_reach g p j
reach g p j (suc k) = max (reach g p j k) (unwrap_or (current_delay g p k j) 0)

-- the length of source j's line
abbrev pub line_length : Graph → Retiming → ℕ → ℕ
line_length g p j = reach g p j g.count

-- what a line's length amounts to: the greatest delay at which a tap or the output reads the source, or 0
pub record Reaches (g : Graph) (p : Retiming) (j l : ℕ) : Type 0 where
  pub taps : (i d : ℕ) → i < g.count → current_delay g p i j ≡ Some d → d ≤ l
  pub output : g.output.node ≡ j → output_delay g p ≤ l
  pub reached : (l ≡ 0) ⊎ ((g.output.node ≡ j) × (l ≡ output_delay g p)) ⊎ ((i : ℕ) × (i < g.count) × (current_delay g p i j ≡ Some l))

-- a line
abbrev pub line_at : Graph → Retiming → ℕ → List ℕ
line_at g p k = line_word (line_source g.count k) (line_length g p (line_source g.count k)) ∷ []

abbrev pub tap_if : ℕ → Option ℕ → List ℕ
tap_if j None = []
tap_if j (Some d) = tap_word j d ∷ []

-- node i's taps, in ascending order of source
abbrev pub taps : Graph → Retiming → ℕ → ℕ → List ℕ
taps g p i k = in_turn (λ j. tap_if j (current_delay g p i j)) k

abbrev pub cell : Graph → Retiming → ℕ → List ℕ
cell g p i = cell_word i (node_at g i).operation (lag_at p i) ∷ taps g p i sources

-- the cells, in firing order
abbrev pub cells : Graph → Retiming → ℕ → List ℕ
cells g p k = in_turn (λ r. cell g p (slice_index (order g p) r)) k

-- all but the end
abbrev pub program_body : Graph → Retiming → List ℕ
program_body g p =
    ((array_word g.count p.factor ∷ [] ++ in_turn (line_at g p) (g.count + 1)) ++ cells g p g.count) ++ array_output_word g.output.node (output_delay g p) ∷ []

-- the words of a bench's program; the end counts itself
unfoldable pub program : Graph → Retiming → List ℕ
program g p = program_body g p ++ array_end_word (length (program_body g p) + 1) ∷ []
