-- The questions that are put at each program word in turn, over the words so far and the word at hand.
use Rattle.std.specs.Prelude.{ℕ, suc, ◌+◌, Bool, true, false, cond, not, ◌&&◌, ◌||◌, List, length, map, Some, None, count_by, Option, ◌==◌, eqb, nat_le, nat_lt}
use Rattle.std.specs.List.{filter}
use Rattle.std.specs.Set.{is_member}
use Rattle.words.specs.declared.faults.Fault.{Fault}
use Rattle.words.specs.declared.kinds.ProgramKind.{ProgramKind}
use Rattle.words.specs.declared.kinds.ProgramKind.TheVariants as kind
use Rattle.words.specs.Fields.{field}
use Rattle.words.specs.ProgramKinds.{program_kind_of, program_numbered, program_named_bits, is_line, is_cell, is_tap, is_array_output, is_array_end}
use Rattle.words.specs.Designs.{is_source, max_nodes}
use Rattle.words.specs.ProgramTables.{max_factor}
use Rattle.words.specs.ProgramEncoding.{line_source}
use Rattle.words.specs.Questions.{count_of, last_word}
use Rattle.words.specs.Formats.{Format, refused_in}

-- how many line words there were
unfoldable pub lines_in : List ℕ → ℕ
lines_in before = count_by (λ w. is_line (program_kind_of w)) before

-- the nodes of the cells that there were
unfoldable pub cells_in : List ℕ → List ℕ
cells_in before = map (field 0 5) (filter (λ w. is_cell (program_kind_of w)) before)

-- the last word is a cell or one of its taps
unfoldable pub in_cell : List ℕ → Bool
in_cell before = is_cell (program_kind_of (last_word before)) || is_tap (program_kind_of (last_word before))

-- the last word is the output
unfoldable pub after_array_output : List ℕ → Bool
after_array_output before = is_array_output (program_kind_of (last_word before))

-- the least source that a tap may have here: above the last one of its cell
unfoldable pub least_tap : List ℕ → ℕ
least_tap before = cond (is_tap (program_kind_of (last_word before))) (suc (field 0 6 (last_word before))) 0

-- 2: may a word of that kind stand here? A line may after the head while one is missing, a cell when no line and some cell is missing,
-- the output when none is.
abbrev pub program_may_stand : List ℕ → Option ProgramKind → Bool
program_may_stand before (Some kind.Head) = length before == 0
program_may_stand before (Some kind.Line) = nat_lt 0 (length before) && nat_lt (lines_in before) (count_of before + 1)
program_may_stand before (Some kind.Cell) = lines_in before == count_of before + 1 && nat_lt (length (cells_in before)) (count_of before)
program_may_stand before (Some kind.Tap) = in_cell before
program_may_stand before (Some kind.Output) = in_cell before && length (cells_in before) == count_of before
program_may_stand before (Some kind.End) = after_array_output before
program_may_stand before None = false

-- 3: are its fields in range, in a program of n nodes?
abbrev pub program_fields_in_range : ℕ → ℕ → Option ProgramKind → Bool
program_fields_in_range n w (Some kind.Head) = (nat_le 1 (field 0 6 w) && nat_le (field 0 6 w) max_nodes) && (nat_le 1 (field 6 7 w) && nat_le (field 6 7 w) max_factor)
program_fields_in_range n w (Some kind.Line) = is_source n (field 0 6 w)
program_fields_in_range n w (Some kind.Cell) = nat_lt (field 0 5 w) n
program_fields_in_range n w (Some kind.Tap) = is_source n (field 0 6 w)
program_fields_in_range n w (Some kind.Output) = nat_lt (field 0 6 w) n
program_fields_in_range n w (Some kind.End) = true
program_fields_in_range n w None = true

-- 4: is a line the next in order, a cell's node new, a tap's source above the last one of its cell?
abbrev pub program_in_order : List ℕ → ℕ → Option ProgramKind → Bool
program_in_order before w (Some kind.Head) = true
program_in_order before w (Some kind.Line) = field 0 6 w == line_source (count_of before) (lines_in before)
program_in_order before w (Some kind.Cell) = not (is_member eqb (cells_in before) (field 0 5 w))
program_in_order before w (Some kind.Tap) = nat_le (least_tap before) (field 0 6 w)
program_in_order before w (Some kind.Output) = true
program_in_order before w (Some kind.End) = true
program_in_order before w None = true

-- the format of program words
abbrev pub program_format : Format ProgramKind
program_format =
    record {
      numbered = program_numbered;
      named = program_named_bits;
      ends = is_array_end;
      may_stand = program_may_stand;
      in_range = λ before. program_fields_in_range (count_of before);
      in_order = program_in_order;
    }

-- the first question answered no, at the lowest word that has one
abbrev pub program_refused : List ℕ → Option Fault
program_refused = refused_in program_format
