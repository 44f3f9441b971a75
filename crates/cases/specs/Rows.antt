-- A row of items in a text, which white space parts.
use Rattle.std.specs.Prelude.{◌≡◌, ℕ, ◌<◌, List, [], ◌∷◌, ◌++◌, length}
use Rattle.std.specs.Char.{is_whitespace, is_not_whitespace}
use Rattle.std.specs.Str.{NoCharPasses, EmptyOrStartsWithPassing}

-- the text is white space or nothing, then the item, and then the rest, which begins with white space if there is any of it
pub record StartsWithItem (text item rest : List ℕ) : Type 0 where
  pub gap : List ℕ
  pub split : text ≡ gap ++ (item ++ rest)
  pub some : 0 < length item
  pub gap_is_white : NoCharPasses is_not_whitespace gap
  pub item_has_no_white : NoCharPasses is_whitespace item
  pub parted : (more : List ℕ) × EmptyOrStartsWithPassing is_whitespace rest more

-- the values are those that the text's items stand for, in order, and no item is left over
abbrev pub IsRow : {T : Type 0} → (List ℕ → T → Type 0) → List ℕ → List T → Type 0
IsRow StandsFor text [] = NoCharPasses is_not_whitespace text
IsRow StandsFor text (value ∷ values) = (item : List ℕ) × (rest : List ℕ) × StartsWithItem text item rest × StandsFor item value × IsRow StandsFor rest values
