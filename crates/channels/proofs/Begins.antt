-- Inputs that begin with a list of elements.
use Rattle.std.proofs.Common.{◌≡◌, ℕ, zero, suc, List, [], ◌∷◌, ◌++◌, length, is_some, Some, refl, ap}
use Rattle.std.specs.List.{slice_get}
use Rattle.std.proofs.lemmas.Bool.{false≢true}
use Rattle.channels.specs.Events.{BeginsWith}

module _ {E : Type 0} where
  -- what stands in a list stands in a longer one
  get_old : (xs ys : List E) (k : ℕ) (y : E) → slice_get xs k ≡ Some y → slice_get (xs ++ ys) k ≡ Some y
  get_old [] ys k y e = absurd (false≢true (ap is_some e))
  get_old (x ∷ xs) ys zero y e = e
  get_old (x ∷ xs) ys (suc k) y e = get_old xs ys k y e

  get_last : (xs : List E) (y : E) → slice_get (xs ++ y ∷ []) (length xs) ≡ Some y
  get_last [] y = refl
  get_last (x ∷ xs) y = get_last xs y

  pub begins_old : (x : ℕ → E) (xs ys : List E) → BeginsWith x (xs ++ ys) → BeginsWith x xs
  begins_old x xs ys b τ y e = b τ y (get_old xs ys τ y e)

  pub begins_last : (x : ℕ → E) (xs : List E) (y : E) → BeginsWith x (xs ++ y ∷ []) → x (length xs) ≡ y
  begins_last x xs y b = b (length xs) y (get_last xs y)
