-- What `find_map` and `find` answer is what `first` says.
use Rattle.std.proofs.Common.{◌≡◌, ℕ, zero, suc, ◌+◌, ◌-◌, ◌<◌, ◌≤◌, Bool, true, false, cond, List, [], ◌∷◌, length, map, take, get_or, IsTrue, IfSome, IsSomeAnd, MatchOption, Some, None, Option, slice_get, sym, refl, ap, ◌∙◌, subst, ⊎_elim, add-zero, arith}
use Rattle.std.specs.Bool.{⊤}
use Rattle.std.specs.declared.ops.Range.{Range}
use denote.Param.Members.{Mut}
use denote.Ref.{Bor}
use Rattle.std.specs.Fn.{Called, CalledAt}
use Rattle.std.specs.Iterator.{DrainsIf, FindsItem}
use Rattle.std.specs.Iterator.Runs.{Run, SomeRun, YieldsRun, AllItemsGive, IsFirstToGive}
use Rattle.std.proofs.lemmas.Iterator.{YieldsList, YieldsList-from_range, items_from_drains, first_from_Range}
use Rattle.std.proofs.lemmas.Iterator.Consumers.{YieldsList-so_far}
use Rattle.std.proofs.lemmas.Option.{slice_get_within}
use Rattle.std.proofs.lemmas.List.{length-take, get_or-take, get_or-map, length-map}
use Rattle.std.proofs.lemmas.Option.{get_or_from_slice_get}
use Rattle.std.proofs.lemmas.List.FromFn.{length-range_with_len, get_or-range_with_len}
use Rattle.std.proofs.lemmas.Bool.{cases_lt}
use Rattle.std.proofs.iter.Yields.{nat_range_steps}
use Rattle.std.specs.Option.{option_or}
use Rattle.bench.specs.First.{first}
use Rattle.bench.proofs.Searches.{first_start, first_found, first_all}

some_at : {A : Type 0} (xs : List A) (k : ℕ) → k < length xs → IsSomeAnd (slice_get xs k) (λ _. ⊤)
some_at [] k l = absurd (omega arith)
some_at (x ∷ xs) zero l = tt
some_at (x ∷ xs) (suc k) l = some_at xs k (omega arith)

module _ {S A B : Type 0} {steps : S → Option A → S → Type 0} {v : A → B} (s : S) (all : List B) (gives : YieldsList steps v s all) (p : Run steps) (from : p.from ≡ s) where
  drained : DrainsIf steps (p.whole ≡ true) s p.items
  drained = subst (λ t. DrainsIf steps (p.whole ≡ true) t p.items) from (unfold YieldsRun in p.gave.0)

  so_far : map v p.items ≡ take (length p.items) all
  so_far = YieldsList-so_far gives p.items drained.0 drained.1

  item_at : (k : ℕ) → p.at k ≡ slice_get p.items k
  item_at k = unfold YieldsRun in p.gave.1 k

  -- what stands at a place of the run stands there in the list
  item_is : (k : ℕ) (x : A) → p.at k ≡ Some x → (k < length all) × (get_or all k (v x) ≡ v x)
  item_is k x h =
      let e : slice_get p.items k ≡ Some x = sym (item_at k) ∙ h in
      let l : k < length p.items = slice_get_within p.items k x e in
      let few : length p.items ≤ length all = omega (arith, sym (length-map p.items v), ap length so_far, length-take (length p.items) all) in (
        omega arith,
        sym (get_or-take (length p.items) all k (v x) l) ∙ ap (λ ys. get_or ys k (v x)) (sym so_far) ∙ get_or-map v p.items k x (v x) l ∙ ap v (get_or_from_slice_get p.items k x x e),
      )

  -- where it went on to the end, something stands at each place
  item_of : p.whole ≡ true → (k : ℕ) → k < length all → IsSomeAnd (p.at k) (λ _. ⊤)
  item_of whole k l =
      let e : map v p.items ≡ all = items_from_drains p.items (drained.0, drained.1, λ _. drained.2 whole) gives in
      subst (λ o. IsSomeAnd o (λ _. ⊤)) (sym (item_at k)) (some_at p.items k (omega (arith, sym (length-map p.items v), ap length e)))

-- what `find_map` ensures of its run
abbrev pub MapsFirst : {S A F E : Type 0} (steps : S → Option A → S → Type 0) (g : Mut F (A × Unit {0}) (Option E)) → S → F → Option E → Type 0
MapsFirst steps g s f r =
    SomeRun steps s (λ p. MatchOption r (IsTrue p.whole × AllItemsGive p g f None) (λ y. (i : ℕ) × (i < p.len) × (p.len ≡ i + 1) × IsFirstToGive p g f (Some y) None i))

-- `find_map` over a list: f computes q at each place
pub first_from_find_map : {S A B F E : Type 0} {steps : S → Option A → S → Type 0} {v : A → B} {g : Mut F (A × Unit {0}) (Option E)} {s : S} {all : List B}
    {f : F} {r : Option E} (q : ℕ → Option E)
    → MapsFirst steps g s f r
    → YieldsList steps v s all
    → ((a : A × Unit {0}) (b : Option E) (h : F) → Called g f a b h → h ≡ f)
    → ((x : A) (b : Option E) (i : ℕ) → i < length all → get_or all i (v x) ≡ v x → Called g f (x, tt) b f → q i ≡ b)
    → r ≡ first q (length all)
first_from_find_map {A = A} {E = E} {g = g} {s = s} {all = all} {f = f} {r = r} q run gives keeps computes = by r run.2
  where
    at : (k : ℕ) (b : Option E) (o : Option A) → run.0.at k ≡ o → IsSomeAnd o (λ x. Called g f (x, tt) b f) → (k < length all) × (q k ≡ b)
    at k b None e h = absurd h
    at k b (Some x) e h = let i = item_is s all gives run.0 run.1 k x e in (i.0, computes x b k i.0 i.1 h)

    none_at : (k : ℕ) → (o : Option A) → IsSomeAnd o (λ _. ⊤) → IfSome o (λ x. Called g f (x, tt) None f) → IsSomeAnd o (λ x. Called g f (x, tt) None f)
    none_at k None h c = absurd h
    none_at k (Some x) h c = c

    by : (o : Option E) → MatchOption o (IsTrue run.0.whole × AllItemsGive run.0 g f None) (λ y. (i : ℕ) × (i < run.0.len) × (run.0.len ≡ i + 1) × IsFirstToGive run.0 g f (Some y) None i) → o ≡ first q (length all)
    by None h = sym (first_all q (length all) (λ k l. (at k None (run.0.at k) refl (none_at k (run.0.at k) (item_of s all gives run.0 run.1 h.0 k l) (h.1 keeps k))).1))
    by (Some y) h =
        let f = h.3 keeps in
        let hit = at h.0 (Some y) (run.0.at h.0) refl f.0 in
        sym (first_found q (length all) h.0 y hit.0 (first_all q h.0 (λ k l. (at k None (run.0.at k) refl (f.1 k l)).1)) hit.1)

-- the same over `a..n`, where q answers nothing below a
module _ {E : Type 0} (q : ℕ → Option E) (a : ℕ) (low : (i : ℕ) → i < a → q i ≡ None) where
  first_shifted : (m : ℕ) → first (λ i. q (a + i)) m ≡ first q (a + m)
  unfolding first
  first_shifted zero = sym (ap (first q) (add-zero a) ∙ first_all q a low)
  first_shifted (suc m) = ap (λ o. option_or o (q (a + m))) (first_shifted m) ∙ ap (first q) {x = suc (a + m)} {y = a + suc m} (omega arith)

  first_above : (n : ℕ) → first (λ i. q (a + i)) (n - a) ≡ first q n
  first_above n =
      ⊎_elim
      (λ (l : n < a). ap (first (λ i. q (a + i))) {x = n - a} {y = 0} (omega arith) ∙ first_start _ ∙ sym (first_all q n (λ i k. low i (omega arith))))
      (λ (l : a ≤ n). first_shifted (n - a) ∙ ap (first q) {x = a + (n - a)} {y = n} (omega arith))
      (cases_lt n a)

  pub first_above_from : {F : Type 0} {g : Mut F (ℕ × Unit {0}) (Option E)} {s : Range ℕ} {f : F} {r : Option E} (n : ℕ) → s ≡ record { start = a; end = n }
      → MapsFirst nat_range_steps g s f r
      → ((x : ℕ × Unit {0}) (b : Option E) (h : F) → Called g f x b h → h ≡ f)
      → ((x : ℕ) (b : Option E) → a ≤ x → x < n → Called g f (x, tt) b f → q x ≡ b)
      → r ≡ first q n
  first_above_from n e run keeps computes =
      first_from_find_map (λ i. q (a + i)) run (YieldsList-from_range a n (n - a) e refl) keeps
      (λ x b i l at c.
      let m : i < n - a = omega (arith, length-range_with_len a (n - a)) in
      let is : a + i ≡ x = sym (get_or-range_with_len a (n - a) i x m) ∙ at in
      ap q is ∙ computes x b (omega arith) (omega arith) c)
      ∙ ap (first (λ i. q (a + i))) (length-range_with_len a (n - a)) ∙ first_above n

-- the same over `0..n`
pub first_over_range : {E F : Type 0} {g : Mut F (ℕ × Unit {0}) (Option E)} {s : Range ℕ} {f : F} {r : Option E} (q : ℕ → Option E) (n : ℕ) → s ≡ record { start = 0; end = n }
    → MapsFirst nat_range_steps g s f r
    → ((x : ℕ × Unit {0}) (b : Option E) (h : F) → Called g f x b h → h ≡ f)
    → ((x : ℕ) (b : Option E) → x < n → Called g f (x, tt) b f → q x ≡ b)
    → r ≡ first q n
first_over_range q n e run keeps computes = first_above_from q 0 (λ i l. absurd (omega arith)) n e run keeps (λ x b _ l c. computes x b l c)

-- `find` over `0..n`: what f passes, q answers by itself
pub first_where : {F : Type 0} {g : Mut F (Bor ℕ × Unit {0}) Bool} {s : Range ℕ} {f : F} {r : Option ℕ} (u : Range ℕ) (q : ℕ → Option ℕ) (n : ℕ) → s ≡ record { start = 0; end = n }
    → FindsItem nat_range_steps g s f r u
    → ((x : ℕ) (b : Bool) (h : F) → CalledAt g f x b h → (h ≡ f) × (x < n → q x ≡ cond b (Some x) None))
    → r ≡ first q n
first_where {s = s} {f = f} {r = r} u q n e ran computes =
    by r (first_from_Range s u f r (λ i. i < n → q i ≡ Some i) (λ i. i < n → q i ≡ None) ran (λ x h k. (computes x true h k).1) (λ x h k. computes x false h k))
  where
    from : s.start ≡ 0
    from = ap (λ (t : Range ℕ). t.start) e

    to : s.end ≡ n
    to = ap (λ (t : Range ℕ). t.end) e

    by : (o : Option ℕ) → MatchOption o ((k : ℕ) → s.start ≤ k → k < s.end → k < n → q k ≡ None) (λ i. (s.start ≤ i) × (i < s.end) × (i < n → q i ≡ Some i) × ((k : ℕ) → s.start ≤ k → k < i → k < n → q k ≡ None))
        → o ≡ first q n
    by None h = sym (first_all q n (λ k l. h k (omega (arith, from)) (omega (arith, to)) l))
    by (Some i) h =
        let l : i < n = omega (arith, to, h.1) in
        sym (first_found q n i i l (first_all q i (λ k m. h.3 k (omega (arith, from)) m (omega arith))) (h.2 l))

-- the same, where f computes a test
pub first_from_find : {F : Type 0} {g : Mut F (Bor ℕ × Unit {0}) Bool} {s : Range ℕ} {f : F} {r : Option ℕ} (u : Range ℕ) (test : ℕ → Bool) (n : ℕ) → s ≡ record { start = 0; end = n }
    → FindsItem nat_range_steps g s f r u
    → ((x : ℕ) (b : Bool) (h : F) → CalledAt g f x b h → (h ≡ f) × (x < n → test x ≡ b))
    → r ≡ first (λ i. cond (test i) (Some i) None) n
first_from_find u test n e ran computes =
    first_where u (λ i. cond (test i) (Some i) None) n e ran (λ x b h k. let c = computes x b h k in (c.0, λ l. ap (λ t. cond t (Some x) None) (c.1 l)))
