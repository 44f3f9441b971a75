-- A list of nodes: its tables while nodes are listed, and the rank of a node.
use Rattle.std.proofs.Common.{◌≡◌, ℕ, ◌+◌, ◌-◌, ◌<◌, ◌≤◌, Bool, true, false, cond, List, [], ◌∷◌, ◌++◌, length, get_or, take, drop, set, replicate, is_some, Some, None, Option, sym, refl, ap, ◌∙◌, subst, ⊎_elim, arith}
use Rattle.std.proofs.lemmas.List.{length-set, drop-set-lt, drop-drop, drop-replicate, get_or-set_same, get_or-set_other, get_or_past, take_more_set}
use Rattle.std.proofs.lemmas.List.FromFn.{length-map-range_with_len, get_or-map-range_with_len, fill_by_all}
use Rattle.std.proofs.lemmas.Bool.{false≢true, cases_Bool, cases_eq, cases_lt, cond-true, cond-false}
use Rattle.words.specs.Designs.{max_nodes}
use Rattle.bench.specs.Firing.{has, place_in}
use Rattle.bench.specs.Orders.{Kept, kept_count, rank_of, ranks_of}
use Rattle.bench.proofs.Lists.{has_new, has_other, has_push, place_old, place_new, place_below}

-- a list as the code keeps it: the second table has the rank of each node, and no other number is listed
module _ (nodes : List ℕ) (ranks : List (Option ℕ)) (count : ℕ) (k : Kept nodes ranks count) where
  abbrev kept : List ℕ
  kept = take count nodes

  kept_long : length ranks ≡ max_nodes
  kept_long = ap length k.ranked ∙ length-map-range_with_len (rank_of kept) 0 max_nodes

  pub kept_rank : (i : ℕ) → get_or ranks i None ≡ rank_of (take count nodes) i
  kept_rank i =
      ⊎_elim
      (λ (l : i < max_nodes). ap (λ xs. get_or xs i None) k.ranked ∙ get_or-map-range_with_len (rank_of kept) 0 max_nodes i i None l (omega arith))
      (λ (l : max_nodes ≤ i). get_or_past ranks i None (omega (arith, kept_long)) ∙ sym (cond-false _ _ _ (past i l)))
      (cases_lt i max_nodes)
    where
      past : (i : ℕ) → max_nodes ≤ i → has kept i ≡ false
      past i l = ⊎_elim (λ (h : has kept i ≡ true). absurd (omega (arith, k.below i h))) (λ (h : has kept i ≡ false). h) (cases_Bool (has kept i))

  -- one node more
  module _ (room : length (take count nodes) < max_nodes) (node : ℕ) (small : node < max_nodes) (new : has (take count nodes) node ≡ false) where
    long : length kept ≡ count
    long = kept_count nodes ranks count k

    grown : take (count + 1) (set nodes count node) ≡ kept ++ node ∷ []
    grown = take_more_set nodes count node (omega (arith, k.table, long))

    rank_other : (i : ℕ) → (node ≡ i → ⊥) → rank_of kept i ≡ rank_of (kept ++ node ∷ []) i
    rank_other i ne = by (has kept i) refl
      where
        by : (b : Bool) → has kept i ≡ b → rank_of kept i ≡ rank_of (kept ++ node ∷ []) i
        by true h = cond-true _ _ _ h ∙ ap Some (sym (place_old kept node i h)) ∙ sym (cond-true _ _ _ (has_other kept node i ne ∙ h))
        by false h = cond-false _ _ _ h ∙ sym (cond-false _ _ _ (has_other kept node i ne ∙ h))

    rank_grown : (i : ℕ) → get_or (set ranks node (Some count)) i None ≡ rank_of (kept ++ node ∷ []) i
    rank_grown i =
        ⊎_elim
        (λ (e : i ≡ node).
        ap (λ m. get_or (set ranks node (Some count)) m None) e ∙ get_or-set_same ranks node (Some count) None (omega (arith, kept_long))
        ∙ ap Some (sym (place_new kept node new ∙ long)) ∙ sym (cond-true _ _ _ (has_new kept node)) ∙ ap (rank_of (kept ++ node ∷ [])) (sym e))
        (λ (ne : i ≡ node → ⊥). get_or-set_other ranks node i (Some count) None ne ∙ kept_rank i ∙ rank_other i (λ e. ne (sym e)))
        (cases_eq i node)

    ranked_grown : set ranks node (Some count) ≡ ranks_of (kept ++ node ∷ [])
    ranked_grown = fill_by_all (rank_of (kept ++ node ∷ [])) (set ranks node (Some count)) max_nodes None (length-set ranks node (Some count) ∙ kept_long) (λ i l. rank_grown i)

    pub kept_grown : Kept (set nodes count node) (set ranks node (Some count)) (count + 1)
    kept_grown =
        record {
          table = length-set nodes count node ∙ k.table;
          few = omega (arith, long);
          past = drop-set-lt (count + 1) nodes count node (omega arith) ∙ sym (drop-drop 1 count nodes) ∙ ap (drop 1) k.past ∙ drop-replicate 1 (max_nodes - count) 0 ∙ ap (λ n. replicate n 0) {x = max_nodes - count - 1} {y = max_nodes - (count + 1)} (omega arith);
          below = λ i h. ⊎_elim (λ (o : has kept i ≡ true). k.below i o) (λ (e : node ≡ i). subst (λ n. n < max_nodes) e small) (has_push kept node i (subst (λ l. has l i ≡ true) grown h));
          ranked = ranked_grown ∙ ap ranks_of (sym grown);
        }

-- no node
pub kept_none : Kept (replicate max_nodes 0) (replicate max_nodes None) 0
unfolding has
kept_none = record { table = refl; few = omega arith; past = refl; below = λ i h. absurd (false≢true h); ranked = refl }

-- a node with a rank is listed, and one without is not
pub has_rank : (l : List ℕ) (i : ℕ) → is_some (rank_of l i) ≡ has l i
has_rank l i = by (has l i)
  where
    by : (b : Bool) → is_some (cond b (Some (place_in l i)) None) ≡ b
    by true = refl
    by false = refl

pub ranked : (l : List ℕ) (i : ℕ) (o : Option ℕ) (b : Bool) → o ≡ rank_of l i → is_some o ≡ b → has l i ≡ b
ranked l i o b e h = sym (has_rank l i) ∙ ap is_some (sym e) ∙ h

-- the rank of a node that is listed
pub rank_is : (l : List ℕ) (i r : ℕ) → rank_of l i ≡ Some r → (has l i ≡ true) × (r ≡ place_in l i) × (r < length l)
rank_is l i r = by (has l i) refl
  where
    by : (b : Bool) → has l i ≡ b → ◌≡◌ {A = Option ℕ} (cond b (Some (place_in l i)) None) (Some r) → (has l i ≡ true) × (r ≡ place_in l i) × (r < length l)
    by true h e = let at : r ≡ place_in l i = cc in (h, at, omega (arith, place_below l i h))
    by false h e = absurd (false≢true (ap is_some e))
