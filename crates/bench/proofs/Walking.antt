-- A walk along nodes that hold each other, and the cycle on which it closes.
use Rattle.std.proofs.Common.{◌≡◌, ℕ, zero, suc, ◌+◌, ◌-◌, ◌<◌, ◌≤◌, Bool, true, false, cond, List, [], ◌∷◌, ◌++◌, length, get_or, drop, is_some, Some, None, Option, sym, refl, ap, ◌∙◌, subst, ap₂, ⊎_elim, arith}
use Rattle.std.proofs.lemmas.List.{length_push, length-drop, get_or-drop, get_or_push, get_or_append_left}
use Rattle.std.proofs.lemmas.Bool.{true≢false, false≢true, cases_eq, cases_lt, cond-true, cond-false, eq-eqb, ne_eqb}
use Rattle.words.specs.declared.graph.Graph.{Graph}
use Rattle.words.specs.Designs.{feed_at}
use Rattle.bench.specs.Cycles.{after, Cycle, AllZero}
use Rattle.bench.specs.First.{first}
use Rattle.bench.specs.Firing.{has, place_in, held_by, next, add, listed_after, firing}
use Rattle.bench.specs.Retimings.{waits, at_rest}
use Rattle.bench.specs.Walks.{met_after, Follows, Closed}
use Rattle.bench.proofs.AtRest.{rest_waits}
use Rattle.bench.proofs.Fires.{fired_fine, held_some}
use Rattle.bench.proofs.Lists.{has_at, place_at, place_below, Distinct, distinct_none, distinct_push, distinct_few, distinct_lacks}
use Rattle.bench.proofs.Rounds.{after_next, after_last}
use Rattle.bench.proofs.Searches.{first_none, first_some}

met_within : (path : List ℕ) (next' k : ℕ) → suc k < length path → met_after path next' k ≡ get_or path (suc k) 0
met_within path next' k l = cond-false _ _ _ (ne_eqb (suc k) (length path) (λ e. omega arith))

met_last : (path : List ℕ) (next' k : ℕ) → suc k ≡ length path → met_after path next' k ≡ next'
met_last path next' k e = cond-true _ _ _ (eq-eqb (suc k) (length path) e)

follows_none : (w : ℕ → ℕ → Bool) (node : ℕ) → Follows w [] node
follows_none w node k l = absurd (omega arith)

-- one node more
module _ (w : ℕ → ℕ → Bool) (path : List ℕ) (node holder : ℕ) where
  met_old : (k : ℕ) → k < length path → met_after (path ++ node ∷ []) holder k ≡ met_after path node k
  met_old k l =
      met_within (path ++ node ∷ []) holder k (omega (arith, length_push path node))
      ∙ ⊎_elim
      (λ (e : suc k ≡ length path). get_or_push path node 0 (suc k) (sym e) ∙ sym (met_last path node k e))
      (λ (ne : suc k ≡ length path → ⊥).
      get_or_append_left path (node ∷ []) 0 (suc k) (omega (arith, ne)) ∙ sym (met_within path node k (omega (arith, ne))))
      (cases_eq (suc k) (length path))

  follows_push : Follows w path node → w node holder ≡ true → Follows w (path ++ node ∷ []) holder
  follows_push f h k l =
      ⊎_elim
      (λ (o : k < length path). ap₂ w (get_or_append_left path (node ∷ []) 0 k o) (met_old k o) ∙ f k o)
      (λ (o : length path ≤ k).
      let last : length path ≡ k = omega (arith, length_push path node) in
      ap₂ w (get_or_push path node 0 k last) (met_last (path ++ node ∷ []) holder k (omega (arith, length_push path node))) ∙ h)
      (cases_lt k (length path))

-- a path of distinct nodes below n that goes on to a node that l lacks
module _ (n : ℕ) (w : ℕ → ℕ → Bool) (l : List ℕ) where
  pub record Path (path : List ℕ) (node : ℕ) : Type 0 where
    pub distinct : Distinct n path
    pub below : node < n
    pub lacks : has l node ≡ false
    pub follows : Follows w path node

  pub path_none : (node : ℕ) → node < n → has l node ≡ false → Path [] node
  path_none node b h = record { distinct = distinct_none n; below = b; lacks = h; follows = follows_none w node }

  module _ (path : List ℕ) (node : ℕ) (p : Path path node) where
    pub path_room : has path node ≡ false → length path < n
    path_room new = omega (arith, distinct_few n (path ++ node ∷ []) (distinct_push n path node p.distinct p.below new), length_push path node)

    pub path_push : (holder : ℕ) → has path node ≡ false → held_by n w l node ≡ Some holder → Path (path ++ node ∷ []) holder
    path_push holder new h =
        let s = held_some n w l node holder h in
        record { distinct = distinct_push n path node p.distinct p.below new; below = s.0; lacks = s.2; follows = follows_push w path node holder p.follows s.1 }

    pub path_closed : has path node ≡ true → Closed n w path node
    path_closed h = record { few = distinct_few n path p.distinct; below = p.distinct.below; apart = p.distinct.apart; follows = p.follows; closes = h }

-- a closed path ends in a cycle of zero delays
module _ (g : Graph) (path : List ℕ) (node : ℕ) (closed : Closed g.count (waits g at_rest) path node) where
  start : ℕ
  start = place_in path node

  unfoldable pub round : List ℕ
  round = drop (place_in path node) path

  starts : place_in path node < length path
  starts = place_below path node closed.closes

  long : length round ≡ length path - place_in path node
  unfolding round
  long = length-drop (place_in path node) path

  at_round : (k : ℕ) → get_or round k 0 ≡ get_or path (place_in path node + k) 0
  unfolding round
  at_round k = get_or-drop (place_in path node) path k 0

  next_round : (k : ℕ) → k < length round → get_or round (after (length round) k) 0 ≡ met_after path node (place_in path node + k)
  next_round k l =
      ⊎_elim
      (λ (e : suc k ≡ length round).
      ap (λ m. get_or round m 0) (after_last (length round) k e) ∙ at_round 0 ∙ ap (λ m. get_or path m 0) (omega arith) ∙ place_at path node closed.closes
      ∙ sym (met_last path node (place_in path node + k) (omega (arith, long, starts))))
      (λ (ne : suc k ≡ length round → ⊥).
      ap (λ m. get_or round m 0) (after_next (length round) k (omega (arith, ne))) ∙ at_round (suc k) ∙ ap (λ m. get_or path m 0) (omega arith)
      ∙ sym (met_within path node (place_in path node + k) (omega (arith, ne, long, starts))))
      (cases_eq (suc k) (length round))

  pub round_zero : AllZero g round
  round_zero k l =
      ap₂ (feed_at g) (at_round k) (next_round k l)
      ∙ rest_waits g (get_or path (place_in path node + k) 0) (met_after path node (place_in path node + k)) (closed.follows (place_in path node + k) (omega (arith, long, starts)))

  same_place : (k l : ℕ) → k < length round → l < length round → get_or round k 0 ≡ get_or round l 0 → k ≡ l
  same_place k l hk hl e =
      let a = closed.apart (place_in path node + k) (omega (arith, long, starts)) in
      let b = closed.apart (place_in path node + l) (omega (arith, long, starts)) in
      let same : place_in path (get_or path (place_in path node + k) 0) ≡ place_in path (get_or path (place_in path node + l) 0) = ap (place_in path) (sym (at_round k) ∙ e ∙ at_round l) in
      omega arith

  pub round_cycle : Cycle g round
  round_cycle =
      record {
        some = omega (arith, long, starts);
        below = λ k l. closed.below (get_or round k 0) (subst (λ i. has path i ≡ true) (sym (at_round k)) (has_at path (place_in path node + k) (omega (arith, long, starts))));
        apart = same_place;
        fed = λ k l. ap is_some (round_zero k l);
      }

module _ (n : ℕ) (w : ℕ → ℕ → Bool) where
  -- an order that is short is stuck
  pub fired_stuck : (k : ℕ) → length (listed_after n w k) < k → next n w (listed_after n w k) ≡ None
  unfolding listed_after
  fired_stuck zero h = absurd (omega arith)
  fired_stuck (suc k) h = by (next n w (listed_after n w k)) refl (fired_stuck k) h
    where
      by : (o : Option ℕ) → next n w (listed_after n w k) ≡ o → (length (listed_after n w k) < k → next n w (listed_after n w k) ≡ None) →
          length (add o (listed_after n w k)) < suc k → next n w (add o (listed_after n w k)) ≡ None
      by None e before l = e
      by (Some x) e before l = absurd (true≢false (ap is_some (sym e ∙ before (omega (arith, length_push (listed_after n w k) x)))))

  unlisted : ℕ → Option ℕ
  unlisted i = cond (has (firing n w) i) None (Some i)

  unlisted_some : (i e : ℕ) → unlisted i ≡ Some e → (has (firing n w) i ≡ false) × (i ≡ e)
  unfolding unlisted
  unlisted_some i e h = by (has (firing n w) i) refl h
    where
      by : (b : Bool) → has (firing n w) i ≡ b → ◌≡◌ {A = Option ℕ} (cond b None (Some i)) (Some e) → (has (firing n w) i ≡ false) × (i ≡ e)
      by true q s = absurd (false≢true (ap is_some s))
      by false q s = (q, cc)

  -- with a node left out it is stuck
  pub left_out : (i : ℕ) → first (λ i. cond (has (firing n w) i) None (Some i)) n ≡ Some i → (i < n) × (has (firing n w) i ≡ false) × (next n w (firing n w) ≡ None)
  unfolding unlisted
  left_out i h =
      let r = first_some unlisted n i h in
      let s = unlisted_some r.0 i r.2 in
      let l : i < n = subst (λ m. m < n) s.1 r.1 in
      let lacks : has (firing n w) i ≡ false = subst (λ m. has (firing n w) m ≡ false) s.1 s.0 in
      (l, lacks, fired_stuck n (short i l lacks))
    where
      short : (i : ℕ) → i < n → has (firing n w) i ≡ false → length (firing n w) < n
      short i l lacks =
          let d = (fired_fine n w n).distinct in
          ⊎_elim
          (λ (e : length (firing n w) ≡ n). absurd (true≢false (sym (Rattle.bench.proofs.Lists.distinct_all n (firing n w) d e i l) ∙ lacks)))
          (λ (ne : length (firing n w) ≡ n → ⊥). omega (arith, ne, distinct_few n (firing n w) d))
          (cases_eq (length (firing n w)) n)

  -- with none left out it is complete
  pub none_out : first (λ i. cond (has (firing n w) i) None (Some i)) n ≡ None → length (firing n w) ≡ n
  unfolding unlisted
  none_out h =
      let d = (fired_fine n w n).distinct in
      ⊎_elim
      (λ (e : length (firing n w) ≡ n). e)
      (λ (ne : length (firing n w) ≡ n → ⊥).
      let lacks = distinct_lacks n (firing n w) d (omega (arith, ne, distinct_few n (firing n w) d)) in
      absurd (true≢false (ap is_some (sym (cond-false _ None (Some lacks.0) lacks.2) ∙ first_none unlisted n lacks.0 h lacks.1))))
      (cases_eq (length (firing n w)) n)
