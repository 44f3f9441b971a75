-- The kinds of program words.
use Rattle.std.specs.Prelude.{ℕ, Bool, cond, ◌==◌, Some, None, Option}
use Rattle.words.specs.declared.kinds.ProgramKind.{ProgramKind}
use Rattle.words.specs.declared.kinds.ProgramKind.TheVariants as kind
use Rattle.words.specs.Fields.{kind_number}

-- the number that stands in bits 31 to 28
abbrev pub program_number_of : Option ProgramKind → ℕ
program_number_of (Some kind.Head) = 8
program_number_of (Some kind.Line) = 9
program_number_of (Some kind.Cell) = 10
program_number_of (Some kind.Tap) = 11
program_number_of (Some kind.Output) = 12
program_number_of (Some kind.End) = 13
program_number_of None = 0

unfoldable pub program_numbered : ℕ → Option ProgramKind
program_numbered k =
    cond (k == 8) (Some kind.Head)
    (cond (k == 9) (Some kind.Line)
    (cond (k == 10) (Some kind.Cell)
    (cond (k == 11) (Some kind.Tap)
    (cond (k == 12) (Some kind.Output)
    (cond (k == 13) (Some kind.End) None)))))

abbrev pub program_kind_of : ℕ → Option ProgramKind
program_kind_of w = program_numbered (kind_number w)

-- how many bits at a word's low end are named; those from there up to bit 27 are not
abbrev pub program_named_bits : Option ProgramKind → ℕ
program_named_bits (Some kind.Head) = 13
program_named_bits (Some kind.Line) = 18
program_named_bits (Some kind.Cell) = 25
program_named_bits (Some kind.Tap) = 18
program_named_bits (Some kind.Output) = 18
program_named_bits (Some kind.End) = 11
program_named_bits None = 0

-- whether a word's kind is that one
abbrev pub is_program_kind : ProgramKind → Option ProgramKind → Bool
is_program_kind wanted k = program_number_of k == program_number_of (Some wanted)

abbrev pub is_line : Option ProgramKind → Bool
is_line = is_program_kind kind.Line

abbrev pub is_cell : Option ProgramKind → Bool
is_cell = is_program_kind kind.Cell

abbrev pub is_tap : Option ProgramKind → Bool
is_tap = is_program_kind kind.Tap

abbrev pub is_array_output : Option ProgramKind → Bool
is_array_output = is_program_kind kind.Output

abbrev pub is_array_end : Option ProgramKind → Bool
is_array_end = is_program_kind kind.End
