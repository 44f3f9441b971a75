-- Absent operands, over a whole list.
use Rattle.std.proofs.Common.{◌≡◌, ℕ, List, [], ◌∷◌, Some, None, fold, Option, refl, ap, ◌∙◌}
use Rattle.std.specs.Option.{option_map}
use Rattle.cells.specs.Meaning.{Meaning, Operand, applied}
use Rattle.cells.specs.Bubbles.{bubble_next, bubble_meaning, all_present, bubbled}

module _ {E A : Type 0} (m : Meaning E A) (o : ℕ) where
  -- once absent, absent for good
  absent : (xs : List (Operand (Option E))) → fold (λ sum x. bubble_next (m.next o x.0) sum x.1) None xs ≡ None
  absent [] = refl
  absent (x ∷ xs) = absent xs

  below : A → List (Operand E) → A
  below a ys = fold (λ sum y. m.next o y.0 sum y.1) a ys

  one_more : (s : ℕ) (x : E) (a : A) (ys : Option (List (Operand E))) →
      option_map (below (m.next o s a x)) ys ≡ option_map (below a) (option_map (λ l. (s, x) ∷ l) ys)
  unfolding below
  one_more s x a None = refl
  one_more s x a (Some ys) = refl

  present : (a : A) (xs : List (Operand (Option E))) → fold (λ sum x. bubble_next (m.next o x.0) sum x.1) (Some a) xs ≡ option_map (below a) (all_present xs)
  unfolding below all_present
  present a [] = refl
  present a ((s, None) ∷ xs) = absent xs
  present a ((s, Some x) ∷ xs) = present (m.next o s a x) xs ∙ one_more s x a (all_present xs)

  last : (ys : Option (List (Operand E))) → option_map (m.element o) (option_map (below (m.first o)) ys) ≡ option_map (applied m o) ys
  unfolding below
  last None = refl
  last (Some ys) = refl

  pub bubbles : (xs : List (Operand (Option E))) → applied (bubble_meaning m) o xs ≡ bubbled m o xs
  bubbles xs = ap (option_map (m.element o)) (present (m.first o) xs) ∙ last (all_present xs)
