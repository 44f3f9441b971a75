-- Sums that wrap.
use Rattle.std.proofs.Common.{◌≡◌, ℕ, Bool, true, false, cond, eqb, List, [], ◌∷◌, get_or, ℤ, pos, ◌+ℤ◌, ◌*ℤ◌, fold, sym, refl, ap, ◌∙◌, w32}
use Rattle.std.specs.Int.{int_wrap}
use Rattle.std.proofs.lemmas.Int.{int_wrap-add_left, int_wrap-add_right}
use Rattle.cells.specs.declared.weights.Weight.{Weight}
use Rattle.cells.specs.Meaning.{Operand, applied}
use Rattle.cells.specs.Sums.{weighted, whole_meaning, whole_blank, exact}

-- wrapping at each operand is wrapping once
once : (b : Bool) (a x y : ℤ) → int_wrap w32 (int_wrap w32 a +ℤ cond b (int_wrap w32 y) x) ≡ int_wrap w32 (a +ℤ cond b y x)
once true a x y = int_wrap-add_left w32 a (int_wrap w32 y) ∙ int_wrap-add_right w32 a y
once false a x y = int_wrap-add_left w32 a x

along : (t : Weight ℤ) (a : ℤ) (xs : List (Operand ℤ)) →
    fold (λ sum x. int_wrap w32 (sum +ℤ weighted (λ y w. int_wrap w32 (y *ℤ w)) t x.0 x.1)) (int_wrap w32 a) xs ≡ int_wrap w32 (fold (λ sum x. sum +ℤ weighted ◌*ℤ◌ t x.0 x.1) a xs)
along t a [] = refl
along t a (x ∷ xs) =
    ap (λ (z : ℤ). fold (λ sum x. int_wrap w32 (sum +ℤ weighted (λ y w. int_wrap w32 (y *ℤ w)) t x.0 x.1)) z xs) (once (eqb x.0 t.source) a x.1 (x.1 *ℤ t.factor))
    ∙ along t (a +ℤ weighted ◌*ℤ◌ t x.0 x.1) xs

zero_wraps : int_wrap w32 (pos 0) ≡ pos 0
unfolding int_wrap
zero_wraps = refl

pub wraps_once : (table : List (Weight ℤ)) (o : ℕ) (xs : List (Operand ℤ)) → applied (whole_meaning table) o xs ≡ int_wrap w32 (exact (get_or table o whole_blank) xs)
wraps_once table o xs =
    let t = get_or table o whole_blank in
    ap (λ (z : ℤ). fold (λ sum x. int_wrap w32 (sum +ℤ weighted (λ y w. int_wrap w32 (y *ℤ w)) t x.0 x.1)) z xs) (sym zero_wraps) ∙ along t (pos 0) xs
