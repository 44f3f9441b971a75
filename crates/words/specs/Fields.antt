-- A word of 32 bits: its kind stands in bits 31 to 28, its fields below.
use Rattle.std.specs.Prelude.{ℕ, ◌+◌, ◌*◌, ◌/◌, ◌%◌, ◌^◌}

-- the number in the `bits` bits from bit `low` on
abbrev pub field : ℕ → ℕ → ℕ → ℕ
field low bits w = (w / 2 ^ low) % 2 ^ bits

-- the number of a word's kind
abbrev pub kind_number : ℕ → ℕ
kind_number w = field 28 4 w

-- a word of that kind whose fields make up that number
abbrev pub word_of : ℕ → ℕ → ℕ
word_of kind fields = kind * 2 ^ 28 + fields

-- a word with a place, a node or a source, in bits 5 to 0, and a number from bit 6 on
abbrev pub place_word : ℕ → ℕ → ℕ → ℕ
place_word kind place number = word_of kind (number * 2 ^ 6 + place)
