-- An array program as far as its words have been read, and what the reader keeps of it.
use Rattle.std.specs.Prelude.{◌≡◌, ℕ, ◌+◌, ◌-◌, ◌<◌, ◌≤◌, Bool, true, false, not, cond, ◌&&◌, ◌≢◌, List, [], ◌∷◌, ◌++◌, map, length, nat_lt, slice_index_or}
use Rattle.std.specs.List.{All, AllPairs}
use Rattle.arrayvec.specs.ArrayVec.{ArrayVec}
use Rattle.words.specs.declared.program_table.Tap.{Tap}
use Rattle.words.specs.declared.program_table.Cell.{Cell}
use Rattle.words.specs.declared.program_draft.ProgramDraft.{ProgramDraft}
use Rattle.words.specs.Programs.{array_output_word}
use Rattle.words.specs.ProgramTables.{CellInRange, max_delay, max_factor}
use Rattle.words.specs.ProgramEncoding.{program_front}
use Rattle.words.specs.ProgramQuestions.{lines_in, cells_in, in_cell, after_array_output, least_tap}
use Rattle.words.specs.Questions.{count_of}
use Rattle.words.specs.Designs.{max_nodes}

-- the nodes of some cells
abbrev pub nodes_of : List Cell → List ℕ
nodes_of cells = map (λ c. c.node) cells

-- what is read past the last cell
abbrev pub no_cell : Cell
no_cell = record { node = 0; operation = 0; lag = 0; taps = record { items = [] } }

-- the taps of the last cell
abbrev pub last_taps : List Cell → List Tap
last_taps cells = (slice_index_or cells (length cells - 1) no_cell).taps.items

-- the words that a draft was read from
abbrev pub program_drafted : ProgramDraft → List ℕ
program_drafted d = program_front d.table ++ cond d.complete (array_output_word d.table.output.source d.table.output.delay ∷ []) []

-- how far the words so far have come: the nodes there are to be, the lines there were, the nodes of the cells there were, the least source
-- of a next tap, whether the output was there
pub record ProgramStands (before : List ℕ) (n laid : ℕ) (nodes : List ℕ) (from : ℕ) (complete : Bool) : Type 0 where
  pub some : 0 < length before
  pub count : count_of before ≡ n
  pub lines : lines_in before ≡ laid
  pub cells : cells_in before ≡ nodes
  pub least : least_tap before ≡ from
  pub cell : in_cell before ≡ (nat_lt 0 (length nodes) && not complete)
  pub output : after_array_output before ≡ complete

-- what the reader keeps: the front of a program in range
pub record ProgramSound (d : ProgramDraft) : Type 0 where
  pub some : 1 ≤ d.table.count
  pub few : d.table.count ≤ max_nodes
  pub slowed : 1 ≤ d.table.factor
  pub slow : d.table.factor ≤ max_factor
  pub lines : length d.table.lines.items ≤ d.table.count + 1
  pub lengths : All (λ l. l ≤ max_delay) d.table.lines.items
  pub cells : length d.table.cells.items ≤ d.table.count
  pub lined : 0 < length d.table.cells.items → length d.table.lines.items ≡ d.table.count + 1
  pub ranges : All (CellInRange d.table.count) d.table.cells.items
  pub apart : AllPairs (λ c e. c.node ≢ e.node) d.table.cells.items
  pub first : length d.table.cells.items ≡ 0 → d.least ≡ 0
  pub below : d.complete ≡ false → All (λ t. t.source < d.least) (last_taps d.table.cells.items)
  pub output_node : d.table.output.source < d.table.count
  pub output_delay : d.table.output.delay ≤ max_delay
  pub whole : d.complete ≡ true → length d.table.cells.items ≡ d.table.count
  pub stands : ProgramStands (program_drafted d) d.table.count (length d.table.lines.items) (nodes_of d.table.cells.items) d.least d.complete

-- a program of n nodes, slowed by K, of which no line was read yet
abbrev pub program_headed : ℕ → ℕ → ProgramDraft
program_headed n factor =
    record {
      table =
          record {
            count = n;
            factor = factor;
            lines = record { items = [] };
            cells = record { items = [] };
            output = record { source = 0; delay = 0 };
          };
      least = 0;
      complete = false;
    }

-- with other lines
abbrev pub with_lines : ProgramDraft → ArrayVec ℕ → ProgramDraft
with_lines d lines =
    record {
      table = record { count = d.table.count; factor = d.table.factor; lines = lines; cells = d.table.cells; output = d.table.output };
      least = d.least;
      complete = d.complete;
    }

-- with other cells, and another least source of the next tap
abbrev pub with_cells : ProgramDraft → ArrayVec Cell → ℕ → ProgramDraft
with_cells d cells least =
    record {
      table = record { count = d.table.count; factor = d.table.factor; lines = d.table.lines; cells = cells; output = d.table.output };
      least = least;
      complete = d.complete;
    }

-- with the output
abbrev pub with_output : ProgramDraft → Tap → ProgramDraft
with_output d output =
    record {
      table = record { count = d.table.count; factor = d.table.factor; lines = d.table.lines; cells = d.table.cells; output = output };
      least = 0;
      complete = true;
    }
