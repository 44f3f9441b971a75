-- The laws of `first`: what a loop that looks for the lowest place keeps and finds.
use Rattle.std.proofs.Common.{◌≡◌, ℕ, zero, suc, ◌+◌, ◌<◌, ◌≤◌, is_some, Some, None, Option, sym, refl, ap, ◌∙◌, subst, ⊎_elim, add-one, arith}
use Rattle.std.proofs.lemmas.Bool.{true≢false, false≢true, cases_eq}
use Rattle.std.specs.Option.{option_or}
use Rattle.bench.specs.First.{first}

pub or_none : {E : Type 0} (o q : Option E) → option_or o q ≡ None → (o ≡ None) × (q ≡ None)
or_none None q h = (refl, h)
or_none (Some e) q h = absurd (true≢false (ap is_some h))

pub none_or : {E : Type 0} (o q : Option E) → o ≡ None → option_or o q ≡ q
none_or None q h = refl
none_or (Some e) q h = absurd (true≢false (ap is_some h))

pub some_or : {E : Type 0} (o q : Option E) (e : E) → o ≡ Some e → option_or o q ≡ Some e
some_or None q e h = absurd (false≢true (ap is_some h))
some_or (Some d) q e h = h

-- a loop that looks for the lowest place: before it begins, a turn that finds nothing, the turn that finds, and its end
module _ {E : Type 0} (p : ℕ → Option E) where
  pub first_start : first p 0 ≡ None
  unfolding first
  first_start = refl

  pub first_more : (i : ℕ) → first p i ≡ None → p i ≡ None → first p (i + 1) ≡ None
  unfolding first
  first_more i h k = rw add-one (none_or (first p i) (p i) h ∙ k)

  pub first_found : (n i : ℕ) (e : E) → i < n → first p i ≡ None → p i ≡ Some e → first p n ≡ Some e
  unfolding first
  first_found zero i e l h k = absurd (omega arith)
  first_found (suc n) i e l h k =
      ⊎_elim
      (λ (q : i ≡ n). none_or (first p n) (p n) (subst (λ m. first p m ≡ None) q h) ∙ subst (λ m. p m ≡ Some e) q k)
      (λ (q : i ≡ n → ⊥). some_or (first p n) (p n) e (first_found n i e (omega (arith, q)) h k))
      (cases_eq i n)

  -- where nothing is found, there is nothing at any place
  pub first_none : (n i : ℕ) → first p n ≡ None → i < n → p i ≡ None
  unfolding first
  first_none zero i h l = absurd (omega arith)
  first_none (suc n) i h l =
      ⊎_elim
      (λ (q : i ≡ n). subst (λ m. p m ≡ None) (sym q) (or_none (first p n) (p n) h).1)
      (λ (q : i ≡ n → ⊥). first_none n i (or_none (first p n) (p n) h).0 (omega (arith, q)))
      (cases_eq i n)

  -- where there is nothing at any place, nothing is found
  pub first_all : (n : ℕ) → ((i : ℕ) → i < n → p i ≡ None) → first p n ≡ None
  unfolding first
  first_all zero h = refl
  first_all (suc n) h = none_or (first p n) (p n) (first_all n (λ i l. h i (omega arith))) ∙ h n (omega arith)

  -- what is found stands at some place, and at none below it
  pub first_some : (n : ℕ) (e : E) → first p n ≡ Some e → (i : ℕ) × (i < n) × (p i ≡ Some e) × (first p i ≡ None)
  unfolding first
  first_some zero e h = absurd (false≢true (ap is_some h))
  first_some (suc n) e h = by (first p n) refl h (first_some n)
    where
      by : (o : Option E) → first p n ≡ o → option_or (first p n) (p n) ≡ Some e → ((d : E) → first p n ≡ Some d → (i : ℕ) × (i < n) × (p i ≡ Some d) × (first p i ≡ None)) →
          (i : ℕ) × (i < suc n) × (p i ≡ Some e) × (first p i ≡ None)
      by None q k below = (n, omega arith, sym (none_or (first p n) (p n) q) ∙ k, q)
      by (Some d) q k below = let r = below e (q ∙ sym (some_or (first p n) (p n) d q) ∙ k) in (r.0, omega (arith, r.1), r.2, r.3)

  -- places past a point that have no answer change nothing
  pub first_extend : (m n : ℕ) → m ≤ n → ((i : ℕ) → m ≤ i → i < n → p i ≡ None) → first p n ≡ first p m
  unfolding first
  first_extend m zero l h = let e : 0 ≡ m = omega arith in ap (first p) e
  first_extend m (suc n) l h =
      ⊎_elim
      (λ (e : m ≡ suc n). ap (first p) (sym e))
      (λ (ne : m ≡ suc n → ⊥).
      let k : m ≤ n = omega (arith, ne) in
      ap (λ o. option_or (first p n) o) (h n k (omega arith)) ∙ or_nothing (first p n) ∙ first_extend m n k (λ i a b. h i a (omega arith)))
      (cases_eq m (suc n))
    where
      or_nothing : (o : Option E) → option_or o None ≡ o
      or_nothing None = refl
      or_nothing (Some x) = refl
