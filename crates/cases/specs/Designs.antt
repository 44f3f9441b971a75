-- The design of a case: what its text spells.
use Rattle.std.specs.Prelude.{ℕ, List, Ok}
use Rattle.std.specs.Str.Parse.{ParsesUnsigned}
use Rattle.cases.specs.Rows.{IsRow}

-- the text's items are those words in hexadecimal, each of 32 bits
abbrev pub Spells : List ℕ → List ℕ → Type 0
Spells text words = IsRow (λ item word. ParsesUnsigned {E = Unit} 32 16 item (Ok word)) text words
