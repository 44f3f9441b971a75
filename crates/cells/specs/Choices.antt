-- Compare cells.
use Rattle.std.specs.Prelude.{◌≡◌, ℕ, ◌%◌, ◌<◌, ◌≤◌, min, max, Bool, cond, ◌⊎◌, List, [], length, ◌==◌, slice_index_or}
use Rattle.std.specs.List.{AllByRecursion}
use Rattle.cells.specs.Meaning.{Meaning, Operand}

-- even operations take the greatest operand, odd ones the least
abbrev pub is_even : ℕ → Bool
is_even operation = operation % 2 == 0

-- the greatest 16-bit number
abbrev pub greatest16 : ℕ
greatest16 = 65535

abbrev pub compare_meaning : Meaning ℕ ℕ
compare_meaning = record {
  first = λ o. cond (is_even o) 0 greatest16;
  next = λ o source sum x. cond (is_even o) (max sum x) (min sum x);
  element = λ o sum. sum;
}

-- operands of 16 bits
abbrev pub Short : List (Operand ℕ) → Type 0
Short operands = AllByRecursion (λ x. x.1 ≤ greatest16) operands

-- it is one of the operands
abbrev pub Among : List (Operand ℕ) → ℕ → Type 0
Among operands v = (k : ℕ) × (k < length operands) × ((d : Operand ℕ) → (slice_index_or operands k d).1 ≡ v)

-- what a value of compare cells amounts to: without operands the least or the greatest number there is, and else an operand that bounds all
pub record Chosen (even : Bool) (operands : List (Operand ℕ)) (v : ℕ) : Type 0 where
  pub none : operands ≡ [] → v ≡ cond even 0 greatest16
  pub among : (operands ≡ []) ⊎ Among operands v
  pub bounds : AllByRecursion (λ x. cond even (x.1 ≤ v) (v ≤ x.1)) operands
