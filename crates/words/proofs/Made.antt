-- What `array::from_fn` makes, where its function computes h at the first m indices.
use Rattle.std.proofs.Common.{◌≡◌, ℕ, zero, suc, ◌+◌, ◌<◌, ◌≤◌, List, map, get_or, take, ap, ◌∙◌, sym, subst, ⊎_elim, arith}
use Rattle.std.specs.Array.{IsFromFnResult, IsFromFnResultFrom}
use Rattle.std.specs.Fn.{Called}
use Rattle.std.specs.List.{range_with_len}
use Rattle.std.proofs.lemmas.Bool.{cases_eq}
use Rattle.std.proofs.lemmas.List.{length-take-le, get_or-take}
use Rattle.std.proofs.lemmas.List.FromFn.{fill_by_all}
use denote.Param.Members.{Mut}

module _ {F B : Type 0} {g : Mut F (ℕ × Unit {0}) B} {f : F} (h : ℕ → B) (m : ℕ) (ys : List B)
    (calls : (i : ℕ) (y : B) (q : F) → Called g f (i, tt) y q → (q ≡ f) × (i < m → y ≡ h i)) where
  made_at : (n i : ℕ) → IsFromFnResultFrom g f ys i n → (k : ℕ) (d : B) → i ≤ k → k < i + n → k < m → get_or ys k d ≡ h k
  made_at zero i each k d a b l = absurd (omega arith)
  made_at (suc n) i each k d a b l =
      let c = calls i each.1 each.0 each.3 in
      ⊎_elim
      (λ (e : k ≡ i). ap (λ j. get_or ys j d) e ∙ each.2.1 d ∙ c.1 (omega arith) ∙ ap h (sym e))
      (λ (ne : k ≡ i → ⊥). made_at n (i + 1) (subst (λ q. IsFromFnResultFrom g q ys (i + 1) n) c.0 each.4) k d (omega (arith, ne)) (omega arith) l)
      (cases_eq k i)

  -- its first m elements
  pub made_front : (n : ℕ) (d : B) → m ≤ n → IsFromFnResult g f ys n → take m ys ≡ map h (range_with_len 0 m)
  made_front n d few made =
      fill_by_all h (take m ys) m d (length-take-le m ys (omega (arith, made.long))) (λ k l.
      get_or-take m ys k d l ∙ made_at n 0 made.each k d (omega arith) (omega arith) l)
