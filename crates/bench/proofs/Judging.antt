-- The verdict is systolic exactly when C1 and C2 hold.
use Rattle.std.proofs.Common.{◌≡◌, ℕ, ◌<◌, Bool, true, false, cond, ◌&&◌, ltb, is_some, Some, None, Option, Result, IsOk, sym, refl, ap, ◌∙◌, subst, ap₂, ⊎_elim, arith}
use Rattle.std.proofs.lemmas.Bool.{true≢false, false≢true, both_ways, cases_Bool, cond-false, and_from, and_right, eqb-false, eq-eqb, ne_eqb, lt-ltb, ltb-true}
use Rattle.words.specs.declared.graph.Graph.{Graph}
use Rattle.words.specs.Designs.{sources}
use Rattle.bench.specs.declared.retiming.Retiming.{Retiming}
use Rattle.bench.specs.declared.verdict.Breach.{Breach}
use Rattle.bench.specs.declared.verdict.Breach.TheVariants.{C1, C2}
use Rattle.bench.specs.First.{first}
use Rattle.bench.specs.Retimings.{current_delay}
use Rattle.bench.specs.Verdicts.{C1Holds, C2Holds, hears, clash, c1_at, c1_breach, c2_at, c2_breach, judged, verdict}
use Rattle.bench.proofs.Searches.{first_none, first_all}

hears_not : (o : Option ℕ) (d : ℕ) → ((e : ℕ) → o ≡ Some e → e ≡ d → ⊥) → hears o d ≡ false
hears_not None d h = refl
hears_not (Some e) d h = ne_eqb e d (h e refl)

clash_not : (o q : Option ℕ) → ((d : ℕ) → o ≡ Some d → q ≡ Some d → ⊥) → clash o q ≡ false
clash_not None q h = refl
clash_not (Some d) q h = hears_not q d (λ e s t. h d refl (s ∙ ap Some t))

passed : {E : Type 0} (b : Bool) (x : E) → ◌≡◌ {A = Option E} (cond b (Some x) None) None → b ≡ false
passed true x h = absurd (true≢false (ap is_some h))
passed false x h = refl

module _ (g : Graph) (p : Retiming) where
  pub c1_free : C1Holds g p → c1_breach g p ≡ None
  c1_free holds =
      first_all (λ i. first (c1_at g p i) g.count) g.count
      (λ i li. first_all (c1_at g p i) g.count (λ j lj. cond-false _ _ _ (hears_not (current_delay g p i j) 0 (λ d e z. let b = holds i j d li lj e in omega arith))))

  pub c1_held : c1_breach g p ≡ None → C1Holds g p
  c1_held h i j d li lj e =
      let none = first_none (c1_at g p i) g.count j (first_none (λ i. first (c1_at g p i) g.count) g.count i h li) lj in
      let apart = eqb-false d 0 (sym (ap (λ o. hears o 0) e) ∙ passed (hears (current_delay g p i j) 0) (C1 i j) none) in
      omega (arith, apart)

  pub c2_free : C2Holds g p → c2_breach g p ≡ None
  c2_free holds =
      first_all (λ j. first (λ i. first (c2_at g p j i) g.count) g.count) sources
      (λ j lj. first_all (λ i. first (c2_at g p j i) g.count) g.count (λ i li. first_all (c2_at g p j i) g.count (λ k lk. cond-false _ _ _ (no_clash j i k lj lk))))
    where
      no_clash : (j i k : ℕ) → j < sources → k < g.count → (ltb i k && clash (current_delay g p i j) (current_delay g p k j)) ≡ false
      no_clash j i k lj lk =
          ⊎_elim
          (λ (t : (ltb i k) ≡ true). and_right _ _ (clash_not (current_delay g p i j) (current_delay g p k j) (λ d s q. holds j i k d lj (ltb-true i k t) lk s q)))
          (λ (t : (ltb i k) ≡ false). Rattle.std.proofs.lemmas.Bool.and_left _ _ t)
          (cases_Bool (ltb i k))

  pub c2_held : c2_breach g p ≡ None → C2Holds g p
  c2_held h j i k d lj lik lk s q =
      let none =
      first_none (c2_at g p j i) g.count k
      (first_none (λ i. first (c2_at g p j i) g.count) g.count i (first_none (λ j. first (λ i. first (c2_at g p j i) g.count) g.count) sources j h lj) (omega arith)) lk in
      let clear = passed (ltb i k && clash (current_delay g p i j) (current_delay g p k j)) (C2 j i k) none in
      let there : clash (current_delay g p i j) (current_delay g p k j) ≡ true = ap₂ clash s q ∙ eq-eqb d d refl in
      absurd (both_ways _ clear (and_from _ _ (lt-ltb i k lik) there))

judged_free : (o q : Option Breach) → IsOk (judged o q) → (o ≡ None) × (q ≡ None)
judged_free (Some e) q h = absurd (false≢true h)
judged_free None (Some e) h = absurd (false≢true h)
judged_free None None h = (refl, refl)

module _ (g : Graph) (p : Retiming) (r : Result (Unit {0}) Breach) (e : r ≡ verdict g p) where
  pub verdict_holds : IsOk r → C1Holds g p × C2Holds g p
  verdict_holds h = let f = judged_free (c1_breach g p) (c2_breach g p) (subst IsOk e h) in (c1_held g p f.0, c2_held g p f.1)

  pub verdict_systolic : C1Holds g p → C2Holds g p → IsOk r
  verdict_systolic one two = subst IsOk (sym (e ∙ ap₂ judged (c1_free g p one) (c2_free g p two))) refl
