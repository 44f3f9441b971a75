-- What rows and bits are printed as.
use Rattle.std.specs.Prelude.{ℕ, ◌-◌, ◌^◌, List, [], ◌∷◌, Option, Some, codes, false, true}
use Rattle.std.specs.Fmt.{◌++?◌, digits, format_spec, padded_integral}

-- the text of each item after a space, known where each item's is
abbrev pub after_spaces : {T : Type 0} → (T → Option (List ℕ)) → List T → Option (List ℕ)
after_spaces text [] = Some []
after_spaces text (item ∷ items) = Some (codes " ") ++? text item ++? after_spaces text items

-- a number's digits in base 16, in upper case, with zeros before them that make them eight
abbrev pub eight_digits : ℕ → List ℕ
eight_digits n = padded_integral (format_spec 32 0 4 8 (2 ^ 64 - 1)) false [] (digits 16 true n)
