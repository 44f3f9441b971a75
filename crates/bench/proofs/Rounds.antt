-- A design whose nodes can all be listed has no cycle of zero delays.
use Rattle.std.proofs.Common.{◌≡◌, ℕ, zero, suc, ◌+◌, ◌-◌, ◌<◌, ◌≤◌, true, ◌⊎◌, List, length, get_or, is_some, Some, None, Option, sym, refl, ap, ◌∙◌, subst, inl, inr, ⊎_elim, arith}
use Rattle.std.proofs.lemmas.Bool.{false≢true, cases_eq, cond-true, cond-false, eq-eqb, ne_eqb}
use Rattle.words.specs.declared.graph.Graph.{Graph}
use Rattle.words.specs.Designs.{feed_at}
use Rattle.bench.specs.Cycles.{after, link, Cycle, AllZero, WellDefined}
use Rattle.bench.specs.Firing.{place_in}
use Rattle.bench.specs.Retimings.{order, waits, at_rest}
use Rattle.bench.proofs.Lists.{distinct_all}
use Rattle.bench.proofs.Fires.{fired_fine}
use Rattle.bench.proofs.AtRest.{rest_waits_if}

pub after_next : (m k : ℕ) → suc k < m → after m k ≡ suc k
after_next m k l = cond-false _ _ _ (ne_eqb (suc k) m (λ e. omega arith))

pub after_last : (m k : ℕ) → suc k ≡ m → after m k ≡ 0
after_last m k e = cond-true _ _ _ (eq-eqb (suc k) m e)

after_below : (m k : ℕ) → k < m → after m k < m
after_below m k l =
    ⊎_elim
    (λ (e : suc k ≡ m). subst (λ n. n < m) (sym (after_last m k e)) (omega arith))
    (λ (ne : suc k ≡ m → ⊥). subst (λ n. n < m) (sym (after_next m k (omega (arith, ne)))) (omega (arith, ne)))
    (cases_eq (suc k) m)

module _ (g : Graph) (all : length (order g at_rest) ≡ g.count) where
  -- ranks rise along every zero delay
  pub rises : (i j : ℕ) → i < g.count → j < g.count → feed_at g i j ≡ Some 0 → place_in (order g at_rest) j < place_in (order g at_rest) i
  rises i j li lj e =
      let fine = fired_fine g.count (waits g at_rest) g.count in
      (fine.rises i j (distinct_all g.count (order g at_rest) fine.distinct all i li) lj (rest_waits_if g i j lj e)).1

  module _ (c : List ℕ) (y : Cycle g c) (z : AllZero g c) where
    falls : (k : ℕ) → k < length c → place_in (order g at_rest) (get_or c (after (length c) k) 0) < place_in (order g at_rest) (get_or c k 0)
    falls k l = rises (get_or c k 0) (get_or c (after (length c) k) 0) (y.below k l) (y.below (after (length c) k) (after_below (length c) k l)) (z k l)

    drops : (k : ℕ) → k < length c → place_in (order g at_rest) (get_or c k 0) + k ≤ place_in (order g at_rest) (get_or c 0 0)
    drops zero l = omega arith
    drops (suc k) l =
        let f = falls k (omega arith) in
        let e = ap (λ n. place_in (order g at_rest) (get_or c n 0)) (after_next (length c) k l) in
        omega (arith, drops k (omega arith))

    -- all the way round they would fall below themselves
    pub no_round : ⊥
    no_round =
        let k : ℕ = length c - 1 in
        let l : k < length c = omega (arith, y.some) in
        let f = falls k l in
        let e = ap (λ n. place_in (order g at_rest) (get_or c n 0)) (after_last (length c) k (omega (arith, y.some))) in
        omega (arith, drops k l)

-- among the first m links one is above 0, or all are 0
above_or_zero : (g : Graph) (c : List ℕ) → ((k : ℕ) → k < length c → is_some (link g c k) ≡ true) → (m : ℕ) → m ≤ length c →
    ((k : ℕ) × (a : ℕ) × (k < length c) × (link g c k ≡ Some a) × (0 < a)) ⊎ ((k : ℕ) → k < m → link g c k ≡ Some 0)
above_or_zero g c fed zero l = inr (λ k h. absurd (omega arith))
above_or_zero g c fed (suc m) l = by (link g c m) refl (above_or_zero g c fed m (omega arith))
  where
    by : (o : Option ℕ) → link g c m ≡ o → ((k : ℕ) × (a : ℕ) × (k < length c) × (link g c k ≡ Some a) × (0 < a)) ⊎ ((k : ℕ) → k < m → link g c k ≡ Some 0) →
        ((k : ℕ) × (a : ℕ) × (k < length c) × (link g c k ≡ Some a) × (0 < a)) ⊎ ((k : ℕ) → k < suc m → link g c k ≡ Some 0)
    by o e (inl found) = inl found
    by None e (inr zeros) = absurd (false≢true (sym (ap is_some e) ∙ fed m (omega arith)))
    by (Some zero) e (inr zeros) =
        inr (λ k h. ⊎_elim (λ (q : k ≡ m). ap (link g c) q ∙ e) (λ (q : k ≡ m → ⊥). zeros k (omega (arith, q))) (cases_eq k m))
    by (Some (suc a)) e (inr zeros) = inl (m, suc a, omega arith, e, omega arith)

-- so every cycle has a delay above 0
pub well_defined : (g : Graph) → length (order g at_rest) ≡ g.count → WellDefined g
well_defined g all c y =
    ⊎_elim
    (λ (found : (k : ℕ) × (a : ℕ) × (k < length c) × (link g c k ≡ Some a) × (0 < a)). found)
    (λ (zeros : (k : ℕ) → k < length c → link g c k ≡ Some 0). absurd (no_round g all c y zeros))
    (above_or_zero g c y.fed (length c) (omega arith))
