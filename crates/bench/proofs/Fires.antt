-- Laws of the firing order: nodes are listed once, each after those it waits for, and none is left out where waiting rises.
use Rattle.std.proofs.Common.{◌≡◌, ℕ, zero, suc, ◌+◌, ◌-◌, ◌<◌, ◌≤◌, Bool, true, false, cond, not, ◌&&◌, List, [], ◌∷◌, ◌++◌, length, is_some, Some, None, Option, sym, refl, ap, ◌∙◌, subst, ⊎_elim, arith}
use Rattle.std.proofs.lemmas.List.{length_push}
use Rattle.std.proofs.lemmas.Bool.{true≢false, false≢true, both_ways, cases_Bool, and_parts, and_from, not-true, not_from_false, cond-true, cond-false}
use Rattle.bench.specs.Firing.{has, place_in, held_by, ready, next, free, add, listed_after}
use Rattle.bench.proofs.Searches.{first_none, first_some}
use Rattle.bench.proofs.Lists.{has_old, has_push, place_old, place_new, place_below, Distinct, distinct_none, distinct_push, distinct_few, distinct_lacks}

some_if : (b : Bool) (j e : ℕ) → ◌≡◌ {A = Option ℕ} (cond b (Some j) None) (Some e) → (b ≡ true) × (j ≡ e)
some_if true j e h = (refl, some_same h)
  where
    some_same : ◌≡◌ {A = Option ℕ} (Some j) (Some e) → j ≡ e
    some_same q = cc
some_if false j e h = absurd (false≢true (ap is_some h))

none_if : (b : Bool) (j : ℕ) → ◌≡◌ {A = Option ℕ} (cond b (Some j) None) None → b ≡ false
none_if true j h = absurd (true≢false (ap is_some h))
none_if false j h = refl

module _ (n : ℕ) (waits : ℕ → ℕ → Bool) where
  -- each node listed once, after those that it waits for
  pub record Fine (l : List ℕ) : Type 0 where
    pub distinct : Distinct n l
    pub rises : (i j : ℕ) → has l i ≡ true → j < n → waits i j ≡ true → (has l j ≡ true) × (place_in l j < place_in l i)

  -- a node that none holds has all that it waits for listed
  pub held_none : (l : List ℕ) (i : ℕ) → held_by n waits l i ≡ None → (j : ℕ) → j < n → waits i j ≡ true → has l j ≡ true
  held_none l i h j k w =
      let q = none_if (waits i j && not (has l j)) j (first_none (λ m. cond (waits i m && not (has l m)) (Some m) None) n j h k) in
      ⊎_elim (λ (t : has l j ≡ true). t) (λ (t : has l j ≡ false). absurd (both_ways (waits i j && not (has l j)) q (and_from _ _ w (not_from_false _ t)))) (cases_Bool (has l j))

  -- the one that holds it is unlisted
  pub held_some : (l : List ℕ) (i j : ℕ) → held_by n waits l i ≡ Some j → (j < n) × (waits i j ≡ true) × (has l j ≡ false)
  held_some l i j h =
      let r = first_some (λ m. cond (waits i m && not (has l m)) (Some m) None) n j h in
      let s = some_if (waits i r.0 && not (has l r.0)) r.0 j r.2 in
      let p = and_parts (waits i r.0) (not (has l r.0)) s.0 in
      (subst (λ m. m < n) s.1 r.1, subst (λ m. waits i m ≡ true) s.1 p.0, subst (λ m. has l m ≡ false) s.1 (not-true _ p.1))

  ready_some : (l : List ℕ) (i e : ℕ) → ready n waits l i ≡ Some e → (has l i ≡ false) × (held_by n waits l i ≡ None) × (i ≡ e)
  ready_some l i e h =
      ⊎_elim
      (λ (t : has l i ≡ true). absurd (false≢true (ap is_some (sym (cond-true _ None (free (held_by n waits l i) i) t) ∙ h))))
      (λ (t : has l i ≡ false). let r = free_some (held_by n waits l i) (sym (cond-false _ None (free (held_by n waits l i) i) t) ∙ h) in (t, r.0, r.1))
      (cases_Bool (has l i))
    where
      free_some : (o : Option ℕ) → free o i ≡ Some e → (o ≡ None) × (i ≡ e)
      free_some None q = (refl, (some_if true i e q).1)
      free_some (Some j) q = absurd (false≢true (ap is_some q))

  -- what is listed next
  pub next_some : (l : List ℕ) (x : ℕ) → next n waits l ≡ Some x → (x < n) × (has l x ≡ false) × (held_by n waits l x ≡ None)
  next_some l x h =
      let r = first_some (ready n waits l) n x h in
      let s = ready_some l r.0 x r.2 in
      (subst (λ m. m < n) s.2 r.1, subst (λ m. has l m ≡ false) s.2 s.0, subst (λ m. held_by n waits l m ≡ None) s.2 s.1)

  -- where none is next, every unlisted node is held by an unlisted one
  pub next_none : (l : List ℕ) → next n waits l ≡ None → (i : ℕ) → i < n → has l i ≡ false → (j : ℕ) × (held_by n waits l i ≡ Some j)
  next_none l h i k no' = by (held_by n waits l i) refl
    where
      by : (o : Option ℕ) → held_by n waits l i ≡ o → (j : ℕ) × (held_by n waits l i ≡ Some j)
      by None e = absurd (true≢false (ap is_some (sym (cond-false _ None (free (held_by n waits l i) i) no' ∙ ap (λ o. free o i) e) ∙ first_none (ready n waits l) n i h k)))
      by (Some j) e = (j, e)

  fine_push : (l : List ℕ) (x : ℕ) → Fine l → x < n → has l x ≡ false → held_by n waits l x ≡ None → Fine (l ++ x ∷ [])
  fine_push l x f k no' free' =
      record {
        distinct = distinct_push n l x f.distinct k no';
        rises = λ i j h m w.
            ⊎_elim
            (λ (o : has l i ≡ true).
            let r = f.rises i j o m w in
            let a = place_old l x i o in
            let b = place_old l x j r.0 in
            (has_old l x j r.0, omega (arith, r.1)))
            (λ (e : x ≡ i).
            let t : has l j ≡ true = held_none l x free' j m (subst (λ y. waits y j ≡ true) (sym e) w) in
            let a : place_in (l ++ x ∷ []) i ≡ length l = ap (place_in (l ++ x ∷ [])) (sym e) ∙ place_new l x no' in
            let b = place_old l x j t in
            (has_old l x j t, omega (arith, place_below l j t)))
            (has_push l x i h);
      }

  pub next_fine : (l : List ℕ) (x : ℕ) → Fine l → next n waits l ≡ Some x → Fine (l ++ x ∷ [])
  next_fine l x f h = let r = next_some l x h in fine_push l x f r.0 r.1 r.2

  pub fine_none : Fine []
  unfolding has
  fine_none = record { distinct = distinct_none n; rises = λ i j h. absurd (false≢true h) }

  pub fired_fine : (k : ℕ) → Fine (listed_after n waits k)
  unfolding listed_after
  fired_fine zero = fine_none
  fired_fine (suc k) = by (next n waits (listed_after n waits k)) refl (fired_fine k)
    where
      by : (o : Option ℕ) → next n waits (listed_after n waits k) ≡ o → Fine (listed_after n waits k) → Fine (add o (listed_after n waits k))
      by None e f = f
      by (Some x) e f = next_fine (listed_after n waits k) x f e

  -- a turn that lists one, and turns that list none
  pub fired_more : (k x : ℕ) → next n waits (listed_after n waits k) ≡ Some x → listed_after n waits (suc k) ≡ listed_after n waits k ++ x ∷ []
  unfolding listed_after
  fired_more k x h = ap (λ o. add o (listed_after n waits k)) h

  pub fired_stays : (k m : ℕ) → next n waits (listed_after n waits k) ≡ None → listed_after n waits (k + m) ≡ listed_after n waits k
  unfolding listed_after
  fired_stays k zero h = ap (listed_after n waits) (omega arith)
  fired_stays k (suc m) h =
      let e : k + suc m ≡ suc (k + m) = omega arith in
      let same = fired_stays k m h in
      ap (listed_after n waits) e ∙ ap (λ l. add (next n waits l) l) same ∙ ap (λ o. add o (listed_after n waits k)) h

  -- so with a turn for each node that is listed
  pub fired_one : (l : List ℕ) (x : ℕ) → l ≡ listed_after n waits (length l) → next n waits l ≡ Some x →
      (length l < n) × (x < n) × (l ++ x ∷ [] ≡ listed_after n waits (length (l ++ x ∷ [])))
  fired_one l x f h =
      let fine : Fine l = subst (λ m. Fine m) (sym f) (fired_fine (length l)) in
      let few = distinct_few n (l ++ x ∷ []) (next_fine l x fine h).distinct in (
        omega (arith, few, length_push l x),
        (next_some l x h).0,
        ap (λ m. m ++ x ∷ []) f ∙ sym (fired_more (length l) x (ap (next n waits) (sym f) ∙ h)) ∙ ap (listed_after n waits) {x = suc (length l)} {y = length (l ++ x ∷ [])} (omega (arith, length_push l x)),
      )

  pub fired_all : (l : List ℕ) → l ≡ listed_after n waits (length l) → next n waits l ≡ None → l ≡ listed_after n waits n
  fired_all l f h =
      let few = distinct_few n l (subst (λ m. Fine m) (sym f) (fired_fine (length l))).distinct in
      f ∙ sym (fired_stays (length l) (n - length l) (ap (next n waits) (sym f) ∙ h)) ∙ ap (listed_after n waits) {x = length l + (n - length l)} {y = n} (omega (arith, few))

  -- where something rises along every wait, none is left out
  module _ (height : ℕ → ℕ) (climbs : (i j : ℕ) → i < n → j < n → waits i j ≡ true → height j < height i) where
    never_stuck : (l : List ℕ) (m i : ℕ) → height i < m → i < n → has l i ≡ false → next n waits l ≡ None → ⊥
    never_stuck l zero i h k no' none = omega arith
    never_stuck l (suc m) i h k no' none =
        let r = next_none l none i k no' in
        let s = held_some l i r.0 r.1 in
        never_stuck l m r.0 (omega (arith, climbs i r.0 k s.0 s.1)) s.0 s.2 none

    pub fired_long : (k : ℕ) → k ≤ n → length (listed_after n waits k) ≡ k
    unfolding listed_after
    fired_long zero h = refl
    fired_long (suc k) h = by (next n waits (listed_after n waits k)) refl (fired_long k (omega arith))
      where
        by : (o : Option ℕ) → next n waits (listed_after n waits k) ≡ o → length (listed_after n waits k) ≡ k → length (add o (listed_after n waits k)) ≡ suc k
        by None e long =
            let lacks = distinct_lacks n (listed_after n waits k) (fired_fine k).distinct (omega arith) in
            absurd (never_stuck (listed_after n waits k) (suc (height lacks.0)) lacks.0 (omega arith) lacks.1 lacks.2 e)
        by (Some x) e long = omega (arith, length_push (listed_after n waits k) x)
