-- The greatest or the least of a list, by a running choice.
use Rattle.std.proofs.Common.{◌≡◌, ℕ, suc, ◌<◌, ◌≤◌, min, max, Bool, true, false, cond, ◌⊎◌, List, [], ◌∷◌, length, fold, sym, refl, ap, ◌∙◌, inl, inr, ⊎_elim, arith}
use Rattle.std.specs.List.{AllByRecursion}
use Rattle.std.proofs.lemmas.Bool.{cases_lt}
use Rattle.cells.specs.Meaning.{Operand, applied}
use Rattle.cells.specs.Choices.{is_even, greatest16, compare_meaning, Short, Among, Chosen}

-- x is no better than v
Bounds : Bool → ℕ → ℕ → Type 0
Bounds even x v = cond even (x ≤ v) (v ≤ x)

pick : Bool → ℕ → ℕ → ℕ
pick even a x = cond even (max a x) (min a x)

bound_same : (even : Bool) (a : ℕ) → Bounds even a a
unfolding Bounds
bound_same true a = omega arith
bound_same false a = omega arith

bound_on : (even : Bool) (a b c : ℕ) → Bounds even a b → Bounds even b c → Bounds even a c
unfolding Bounds
bound_on true a b c p q = omega arith
bound_on false a b c p q = omega arith

pick_left : (even : Bool) (a x : ℕ) → Bounds even a (pick even a x)
unfolding Bounds pick
pick_left true a x = omega arith
pick_left false a x = omega arith

pick_right : (even : Bool) (a x : ℕ) → Bounds even x (pick even a x)
unfolding Bounds pick
pick_right true a x = omega arith
pick_right false a x = omega arith

pick_one : (even : Bool) (a x : ℕ) → (pick even a x ≡ a) ⊎ (pick even a x ≡ x)
unfolding pick
pick_one true a x = ⊎_elim (λ (l : x < a). inl (omega arith)) (λ (l : a ≤ x). inr (omega arith)) (cases_lt x a)
pick_one false a x = ⊎_elim (λ (l : x < a). inr (omega arith)) (λ (l : a ≤ x). inl (omega arith)) (cases_lt x a)

-- the choice so far is a, and then come these operands
chosen_on : Bool → ℕ → List (Operand ℕ) → ℕ
chosen_on even a xs = fold (λ sum (x : Operand ℕ). pick even sum x.1) a xs

run : (even : Bool) (a : ℕ) (xs : List (Operand ℕ)) →
    Bounds even a (chosen_on even a xs) × AllByRecursion (λ x. Bounds even x.1 (chosen_on even a xs)) xs × ((chosen_on even a xs ≡ a) ⊎ Among xs (chosen_on even a xs))
unfolding chosen_on
run even a [] = (bound_same even a, tt, inl refl)
run even a (x ∷ xs) =
    let v : ℕ = chosen_on even (pick even a x.1) xs in
    let r = run even (pick even a x.1) xs in (
      bound_on even a (pick even a x.1) v (pick_left even a x.1) r.0,
      (bound_on even x.1 (pick even a x.1) v (pick_right even a x.1) r.0, r.1),
      ⊎_elim
          (λ (e : v ≡ pick even a x.1).
          ⊎_elim (λ (p : pick even a x.1 ≡ a). inl (e ∙ p)) (λ (p : pick even a x.1 ≡ x.1). inr (0, omega arith, λ d. sym (e ∙ p))) (pick_one even a x.1))
          (λ (h : Among xs v). inr (suc h.0, omega (arith, h.1), h.2))
          r.2,
    )

-- a number that is no better than the start is the start
start_last : (even : Bool) (x v : ℕ) → x ≤ greatest16 → Bounds even x v → v ≡ cond even 0 greatest16 → x ≡ v
unfolding Bounds
start_last true x v few b e = omega arith
start_last false x v few b e = omega arith

chosen : (even : Bool) (xs : List (Operand ℕ)) → Short xs → Chosen even xs (chosen_on even (cond even 0 greatest16) xs)
unfolding Bounds chosen_on
chosen even [] few = record { none = λ _. refl; among = inl refl; bounds = tt }
chosen even (x ∷ xs) few =
    let v : ℕ = chosen_on even (cond even 0 greatest16) (x ∷ xs) in
    let r = run even (cond even 0 greatest16) (x ∷ xs) in
    record {
      none = λ e. absurd (omega (arith, ap length e));
      among = inr (⊎_elim (λ (e : v ≡ cond even 0 greatest16). (0, omega arith, λ d. start_last even x.1 v few.0 r.1.0 e)) (λ (h : Among (x ∷ xs) v). h) r.2);
      bounds = r.1;
    }

pub compare_chosen : (o : ℕ) (xs : List (Operand ℕ)) → Short xs → Chosen (is_even o) xs (applied compare_meaning o xs)
unfolding pick chosen_on
compare_chosen o xs few = chosen (is_even o) xs few
