-- The questions that are put at each design word in turn, over the words so far and the word at hand.
use Rattle.std.specs.Prelude.{ℕ, suc, ◌-◌, Bool, true, false, cond, ◌&&◌, ◌||◌, List, length, Some, None, count_by, Option, ◌==◌, nat_le, nat_lt, slice_index}
use Rattle.words.specs.declared.faults.Fault.{Fault}
use Rattle.words.specs.declared.kinds.Kind.{Kind}
use Rattle.words.specs.declared.kinds.Kind.TheVariants as kind
use Rattle.words.specs.Fields.{field}
use Rattle.words.specs.Kinds.{kind_of, kind_numbered, named_bits, is_node, is_feed, is_output, is_end}
use Rattle.words.specs.Designs.{is_source, max_nodes}
use Rattle.words.specs.Formats.{Format, asked_in, refused_from_in, refused_in}

-- the design's number of nodes, from the head; 0 before there is one
unfoldable pub count_of : List ℕ → ℕ
count_of before = field 0 6 (slice_index before 0)

-- how many node words there were
unfoldable pub nodes_in : List ℕ → ℕ
nodes_in before = count_by (λ w. is_node (kind_of w)) before

abbrev pub last_word : List ℕ → ℕ
last_word before = slice_index before (length before - 1)

-- the last word is a node or one of its feeds
unfoldable pub in_node : List ℕ → Bool
in_node before = is_node (kind_of (last_word before)) || is_feed (kind_of (last_word before))

-- the last word is the output
unfoldable pub after_output : List ℕ → Bool
after_output before = is_output (kind_of (last_word before))

-- the least source that a feed may have here: above the last one of its node
unfoldable pub least_source : List ℕ → ℕ
least_source before = cond (is_feed (kind_of (last_word before))) (suc (field 0 6 (last_word before))) 0

-- 2: may a word of that kind stand here? A node may while one is missing, the output when none is.
abbrev pub may_stand : List ℕ → Option Kind → Bool
may_stand before (Some kind.Head) = length before == 0
may_stand before (Some kind.Node) = nat_lt (nodes_in before) (count_of before)
may_stand before (Some kind.Feed) = in_node before
may_stand before (Some kind.Output) = in_node before && nodes_in before == count_of before
may_stand before (Some kind.End) = after_output before
may_stand before None = false

-- 3: are its fields in range, in a design of n nodes?
abbrev pub fields_in_range : ℕ → ℕ → Option Kind → Bool
fields_in_range n w (Some kind.Head) = nat_le 1 (field 0 6 w) && nat_le (field 0 6 w) max_nodes
fields_in_range n w (Some kind.Node) = nat_lt (field 0 5 w) n
fields_in_range n w (Some kind.Feed) = is_source n (field 0 6 w)
fields_in_range n w (Some kind.Output) = nat_lt (field 0 6 w) n
fields_in_range n w (Some kind.End) = true
fields_in_range n w None = true

-- 4: is a node the next in order, a feed's source above the last one of its node?
abbrev pub in_order : List ℕ → ℕ → Option Kind → Bool
in_order before w (Some kind.Head) = true
in_order before w (Some kind.Node) = field 0 5 w == nodes_in before
in_order before w (Some kind.Feed) = nat_le (least_source before) (field 0 6 w)
in_order before w (Some kind.Output) = true
in_order before w (Some kind.End) = true
in_order before w None = true

-- the format of design words
abbrev pub design_format : Format Kind
design_format =
    record {
      numbered = kind_numbered;
      named = named_bits;
      ends = is_end;
      may_stand = may_stand;
      in_range = λ before. fields_in_range (count_of before);
      in_order = in_order;
    }

-- what is refused at a word, given the words before it and those after it: the first question answered no
abbrev pub asked : List ℕ → ℕ → List ℕ → Option Fault
asked = asked_in design_format

-- what is refused of the words from here on: each in turn, up to the end word
abbrev pub refused_from : List ℕ → List ℕ → Option Fault
refused_from = refused_from_in design_format

-- the first question answered no, at the lowest word that has one
abbrev pub refused : List ℕ → Option Fault
refused = refused_in design_format
