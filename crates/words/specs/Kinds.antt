-- The kinds of design words.
use Rattle.std.specs.Prelude.{ℕ, Bool, cond, ◌==◌, Some, None, Option, Result}
use Rattle.words.specs.declared.faults.WordsQuestion.{WordsQuestion}
use Rattle.words.specs.declared.kinds.Kind.{Kind}
use Rattle.words.specs.declared.kinds.Kind.TheVariants as kind
use Rattle.words.specs.Fields.{kind_number}
use Rattle.words.specs.Refusals.{known_kind}

-- the number that stands in bits 31 to 28
abbrev pub number_of : Option Kind → ℕ
number_of (Some kind.Head) = 1
number_of (Some kind.Node) = 2
number_of (Some kind.Feed) = 3
number_of (Some kind.Output) = 4
number_of (Some kind.End) = 5
number_of None = 0

unfoldable pub kind_numbered : ℕ → Option Kind
kind_numbered k =
    cond (k == 1) (Some kind.Head) (cond (k == 2) (Some kind.Node) (cond (k == 3) (Some kind.Feed) (cond (k == 4) (Some kind.Output) (cond (k == 5) (Some kind.End) None))))

abbrev pub kind_of : ℕ → Option Kind
kind_of w = kind_numbered (kind_number w)

-- a kind where there is one, and else the question whether it may stand
abbrev pub known : Option Kind → Result Kind WordsQuestion
known = known_kind

-- how many bits at a word's low end are named; those from there up to bit 27 are not
abbrev pub named_bits : Option Kind → ℕ
named_bits (Some kind.Head) = 6
named_bits (Some kind.Node) = 13
named_bits (Some kind.Feed) = 14
named_bits (Some kind.Output) = 14
named_bits (Some kind.End) = 11
named_bits None = 0

-- whether a word's kind is that one
abbrev pub is_kind : Kind → Option Kind → Bool
is_kind wanted k = number_of k == number_of (Some wanted)

abbrev pub is_node : Option Kind → Bool
is_node = is_kind kind.Node

abbrev pub is_feed : Option Kind → Bool
is_feed = is_kind kind.Feed

abbrev pub is_output : Option Kind → Bool
is_output = is_kind kind.Output

abbrev pub is_end : Option Kind → Bool
is_end = is_kind kind.End
