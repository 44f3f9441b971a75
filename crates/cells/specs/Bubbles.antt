-- The bubble layer: elements that may be absent.
use Rattle.std.specs.Prelude.{ℕ, List, [], ◌∷◌, Some, None, Option}
use Rattle.std.specs.Option.{option_map, option_zip}
use Rattle.cells.specs.Meaning.{Meaning, Operand, applied}

-- an absent operand makes the running sum absent, for good
abbrev pub bubble_next : {E A : Type 0} → (A → E → A) → Option A → Option E → Option A
bubble_next next sum x = option_map (λ p. next p.0 p.1) (option_zip sum x)

abbrev pub bubble_meaning : {E A : Type 0} → Meaning E A → Meaning (Option E) (Option A)
bubble_meaning m = record {
  first = λ o. Some (m.first o);
  next = λ o source sum x. bubble_next (m.next o source) sum x;
  element = λ o sum. option_map (m.element o) sum;
}

-- the operands of a list, if none is absent
unfoldable pub all_present : {E : Type 0} → List (Operand (Option E)) → Option (List (Operand E))
all_present [] = Some []
all_present ((source, None) ∷ xs) = None
all_present ((source, Some x) ∷ xs) = option_map (λ ys. (source, x) ∷ ys) (all_present xs)

-- the law: present exactly when all operands are, with the value below
abbrev pub bubbled : {E A : Type 0} → Meaning E A → ℕ → List (Operand (Option E)) → Option E
bubbled m operation xs = option_map (applied m operation) (all_present xs)
