-- Words as lines of text.
use Rattle.std.specs.Prelude.{ℕ, ◌+◌, ◌-◌, ◌*◌, cond, List, [], ◌∷◌, ◌++◌, map, nat_lt}
use Rattle.std.specs.List.{range_with_len, flat_map}
use Rattle.words.specs.Fields.{field}

-- the byte of a hexadecimal digit: 0 to 9, A to F
abbrev pub digit : ℕ → ℕ
digit d = cond (nat_lt d 10) (48 + d) (55 + d)

-- digit k of a word's eight, the highest first
abbrev pub digit_at : ℕ → ℕ → ℕ
digit_at w k = digit (field (28 - 4 * k) 4 w)

-- a word's line: its eight digits, and byte 10
abbrev pub line_of : ℕ → List ℕ
line_of w = map (digit_at w) (range_with_len 0 8) ++ 10 ∷ []

-- a line for each word
abbrev pub listed : List ℕ → List ℕ
listed words = flat_map line_of words
