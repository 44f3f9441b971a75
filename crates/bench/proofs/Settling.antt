-- Settling: the ranks as a row of shifts.
use Rattle.std.proofs.Common.{◌≡◌, ℕ, ◌-◌, ◌<◌, ◌≤◌, true, List, map, length, get_or, take, ℤ, pos, ap, ◌∙◌, subst, ⊎_elim, arith}
use Rattle.std.specs.List.{range_with_len}
use Rattle.std.proofs.lemmas.List.FromFn.{length-map-range_with_len, get_or-map-range_with_len}
use Rattle.std.proofs.lemmas.List.{get_or_past}
use Rattle.std.proofs.lemmas.Bool.{cases_lt, le-leb}
use Rattle.words.specs.declared.graph.Graph.{Graph}
use Rattle.words.specs.Designs.{max_nodes}
use Rattle.bench.specs.declared.retiming.Retiming.{Retiming}
use Rattle.bench.specs.Firing.{place_in}
use Rattle.bench.specs.Moves.{is_shift, ranks}
use Rattle.bench.specs.Orders.{Fires}
use Rattle.bench.specs.Retimings.{order}
use Rattle.words.specs.ProgramTables.{max_lag}
use Rattle.bench.proofs.Lists.{place_below}

module _ (g : Graph) (few : g.count ≤ max_nodes) (p : Retiming) (l : List ℕ) (e : l ≡ order g p) (fires : Fires g p l) where
  -- what is lent is the row of ranks
  pub ranks_row : (row : List ℤ) (n : ℕ) → n ≡ g.count → take (length l) row ≡ map (λ i. pos (place_in l i)) (range_with_len 0 (length l)) → take (n - 0) row ≡ ranks g p
  ranks_row row n m h =
      let same : n - 0 ≡ length l = omega (arith, fires.whole) in
      ap (λ k. take k row) same ∙ h ∙ ap (λ m. map (λ i. pos (place_in m i)) (range_with_len 0 (length l))) e ∙ ap (λ k. map (λ i. pos (place_in (order g p) i)) (range_with_len 0 k)) fires.whole

  low : (i : ℕ) → i < g.count → place_in (order g p) i < max_nodes
  low i b = let at = place_below l i (fires.every i b) in subst (λ m. place_in m i < max_nodes) e (omega (arith, fires.whole))

  pub ranks_long : length (ranks g p) ≡ g.count
  ranks_long = length-map-range_with_len (λ k. pos (place_in (order g p) k)) 0 g.count

  pub ranks_fit : (i : ℕ) → is_shift (get_or (ranks g p) i (pos 0)) ≡ true
  ranks_fit i =
      ⊎_elim
      (λ (b : i < g.count).
      ap is_shift (get_or-map-range_with_len (λ k. pos (place_in (order g p) k)) 0 g.count i i (pos 0) b (omega arith)) ∙ le-leb (place_in (order g p) i) max_lag (omega (arith, low i b)))
      (λ (b : g.count ≤ i). ap is_shift (get_or_past (ranks g p) i (pos 0) (omega (arith, ranks_long))))
      (cases_lt i g.count)
