-- What loading asks of a program's words after 1 to 5: questions 15 and 16.
use Rattle.std.specs.Prelude.{◌≡◌, ℕ, ◌-◌, Bool, false, cond, not, ◌&&◌, ◌||◌, List, map, fold, length, take, Some, None, Option, ◌==◌, max, slice_index, slice_index_or}
use Rattle.words.specs.declared.faults.Fault.{Fault}
use Rattle.words.specs.Designs.{input, max_nodes}
use Rattle.words.specs.Fields.{field}
use Rattle.words.specs.ProgramKinds.{program_kind_of, is_line, is_tap, is_array_output}
use Rattle.words.specs.ProgramQuestions.{cells_in}
use Rattle.bench.specs.First.{first}
use Rattle.bench.specs.Firing.{has}
use Rattle.machine.specs.declared.named.Named.{Named}
use Rattle.machine.specs.Refusals.{late_cell, wrong_line}

-- the source or the node of a line, a tap or an output
abbrev pub place_of : ℕ → ℕ
place_of w = field 0 6 w

-- the length of a line, the delay of a tap or an output
abbrev pub number_of : ℕ → ℕ
number_of w = field 6 12 w

-- the nodes of the cells among these words, in order, without the last
abbrev pub earlier_in : List ℕ → List ℕ
earlier_in before = take (length (cells_in before) - 1) (cells_in before)

-- a tap reads a source that it can hear where these cells have fired: at a delay above 0 any, else the input or one of them
abbrev pub can_hear : List ℕ → ℕ → Bool
can_hear fired w = not (number_of w == 0) || (place_of w == input || has fired (place_of w))

-- a tap after these words that cannot hear its source where the earlier cells have fired
abbrev pub is_late_tap : List ℕ → ℕ → Bool
is_late_tap before w = is_tap (program_kind_of w) && not (can_hear (earlier_in before) w)

-- 15: does each tap of delay 0 from a node read an earlier cell?
abbrev pub tap_fault_in : List ℕ → ℕ → Option Fault
tap_fault_in words k = cond (is_late_tap (take k words) (slice_index words k)) (Some (late_cell k)) None

abbrev pub tap_fault : List ℕ → Option Fault
tap_fault words = first (tap_fault_in words) (length words)

-- a table of nodes that has those of a list
abbrev pub Marks : List Bool → List ℕ → Type 0
Marks table nodes = (j : ℕ) → slice_index_or table j false ≡ has nodes j

-- what is kept of the cells among these words: a table of all their nodes, and one of those before the last
pub record Names (before : List ℕ) (named : Named) : Type 0 where
  pub table : length named.all ≡ max_nodes
  pub all : Marks named.all (cells_in before)
  pub earlier : Marks named.earlier (earlier_in before)

-- the delay at which a word reads source j; 0 if it is no tap and no output, or of another source
abbrev pub delay_at : ℕ → ℕ → ℕ
delay_at j w = cond ((is_tap (program_kind_of w) || is_array_output (program_kind_of w)) && place_of w == j) (number_of w) 0

-- the greatest delay at which a tap or the output reads source j, or 0
unfoldable pub greatest_delay : List ℕ → ℕ → ℕ
greatest_delay words j = fold max 0 (map (delay_at j) words)

-- a line whose length is not the greatest delay at which its source is read
abbrev pub is_wrong_line : List ℕ → ℕ → Bool
is_wrong_line words w = is_line (program_kind_of w) && not (number_of w == greatest_delay words (place_of w))

-- 16: is each line's length as defined?
abbrev pub line_fault_in : List ℕ → ℕ → Option Fault
line_fault_in words k = cond (is_wrong_line words (slice_index words k)) (Some (wrong_line k)) None

abbrev pub line_fault : List ℕ → Option Fault
line_fault words = first (line_fault_in words) (length words)
