-- A settled bench is systolic.
use Rattle.std.proofs.Common.{◌≡◌, ℕ, ◌+◌, ◌*◌, ◌<◌, ◌≤◌, get_or, pos, ◌+ℤ◌, is_some, Some, None, Option, sym, refl, ap, ◌∙◌, ⊎_elim, mul_assoc, mul_comm, add-mul, one-mul, arith}
use Rattle.std.specs.Option.{option_map}
use Rattle.std.proofs.lemmas.Nat.{mul-le}
use Rattle.std.proofs.lemmas.List.FromFn.{get_or-map-range_with_len}
use Rattle.std.proofs.lemmas.Bool.{false≢true, cases_lt}
use Rattle.words.specs.declared.graph.Graph.{Graph}
use Rattle.words.specs.Designs.{feed_at, max_nodes}
use Rattle.bench.specs.declared.retiming.Retiming.{Retiming}
use Rattle.bench.specs.Firing.{place_in}
use Rattle.bench.specs.Moves.{moved, natural, ranks}
use Rattle.bench.specs.Orders.{Fires}
use Rattle.bench.specs.Retimings.{Sound, order, lag_at, source_lag, ahead, delay_of, current_delay}
use Rattle.bench.specs.Verdicts.{C1Holds, C2Holds}
use Rattle.bench.proofs.Lists.{place_at, place_below}
use Rattle.bench.proofs.Moved.{lag_moved}
use Rattle.bench.proofs.Ordered.{source_node}

-- a current delay is that of a feed
pub fed : (g : Graph) (q : Retiming) (i j d : ℕ) → current_delay g q i j ≡ Some d → (a : ℕ) × (feed_at g i j ≡ Some a) × (delay_of q i j a ≡ d)
fed g q i j d h = by (feed_at g i j) refl h
  where
    by : (o : Option ℕ) → feed_at g i j ≡ o → option_map (delay_of q i j) (feed_at g i j) ≡ Some d → (a : ℕ) × (feed_at g i j ≡ Some a) × (delay_of q i j a ≡ d)
    by None e t = absurd (false≢true (ap is_some (sym (ap (option_map (delay_of q i j)) e) ∙ t)))
    by (Some a) e t = (a, e, same (sym (ap (option_map (delay_of q i j)) e) ∙ t))
      where
        same : ◌≡◌ {A = Option ℕ} (Some (delay_of q i j a)) (Some d) → delay_of q i j a ≡ d
        same s = cc

-- a whole number of turns and a part of one
above : (n x y : ℕ) → x < y → x * n + n ≤ y * n
above n x y l = omega (arith, mul-le (x + 1) n y n (omega arith) (omega arith), add-mul x 1 n, one-mul n)

part : (n x y r s : ℕ) → r < n → s < n → x * n + r ≡ y * n + s → r ≡ s
part n x y r s lr ls e =
    ⊎_elim
    (λ (l : x < y). absurd (omega (arith, above n x y l)))
    (λ (l : y ≤ x).
    ⊎_elim
    (λ (k : y < x). absurd (omega (arith, above n y x k)))
    (λ (k : x ≤ y). let same : x ≡ y = omega arith in let turns = ap (λ m. m * n) same in omega arith)
    (cases_lt y x))
    (cases_lt x y)

module _ (g : Graph) (few : g.count ≤ max_nodes) (p : Retiming) (s : Sound g p) (fires : Fires g p (order g p)) where
  low : (i : ℕ) → i < g.count → place_in (order g p) i < g.count
  low i l = omega (arith, place_below (order g p) i (fires.every i l), fires.whole)

  lag_settled : (i : ℕ) → i < g.count → lag_at (moved p g.count (ranks g p)) i ≡ lag_at p i * g.count + place_in (order g p) i
  lag_settled i l =
      lag_moved p g.count (ranks g p) i (omega arith)
      ∙ ap (λ z. natural (pos (lag_at p i * g.count) +ℤ z)) (get_or-map-range_with_len (λ k. pos (place_in (order g p) k)) 0 g.count i i (pos 0) l (omega arith))

  ahead_settled : (i a : ℕ) → i < g.count → ahead (moved p g.count (ranks g p)) i a ≡ ahead p i a * g.count + place_in (order g p) i
  unfolding moved
  ahead_settled i a l =
      let n : ℕ = g.count in
      let turned : (p.factor * n) * a ≡ (p.factor * a) * n = mul_assoc p.factor n a ∙ ap (λ m. p.factor * m) (mul_comm n a) ∙ sym (mul_assoc p.factor a n) in
      omega (arith, add-mul (p.factor * a) (lag_at p i) n, lag_settled i l)

  module _ (sq : Sound g (moved p g.count (ranks g p))) where
    pub settled_c1 : C1Holds g (moved p g.count (ranks g p))
    settled_c1 i j d li lj h =
        let n : ℕ = g.count in
        let f = fed g (moved p n (ranks g p)) i j d h in
        let behind : source_lag (moved p n (ranks g p)) j ≡ lag_at p j * n + place_in (order g p) j = source_node (moved p n (ranks g p)) j (omega arith) ∙ lag_settled j lj in
        let at = ahead_settled i f.0 li in
        let before = s.low i j f.0 li f.1 in
        let same = source_node p j (omega arith) in
        ⊎_elim
        (λ (l : lag_at p j < ahead p i f.0). omega (arith, f.2, above n (lag_at p j) (ahead p i f.0) l, low j lj))
        (λ (l : ahead p i f.0 ≤ lag_at p j).
        let level : lag_at p j ≡ ahead p i f.0 = omega arith in
        let turns = ap (λ m. m * n) level in
        let zero' : delay_of p i j f.0 ≡ 0 = omega arith in
        let up = fires.rises i j li lj (ap (option_map (delay_of p i j)) f.1 ∙ ap Some zero') in
        omega (arith, f.2))
        (cases_lt (lag_at p j) (ahead p i f.0))

    pub settled_c2 : C2Holds g (moved p g.count (ranks g p))
    settled_c2 j i k d lj lik lk hi hk =
        let n : ℕ = g.count in
        let li : i < n = omega arith in
        let fi = fed g (moved p n (ranks g p)) i j d hi in
        let fk = fed g (moved p n (ranks g p)) k j d hk in
        let bi = sq.low i j fi.0 li fi.1 in
        let bk = sq.low k j fk.0 lk fk.1 in
        let ai = ahead_settled i fi.0 li in
        let ak = ahead_settled k fk.0 lk in
        let level : ahead p i fi.0 * n + place_in (order g p) i ≡ ahead p k fk.0 * n + place_in (order g p) k = omega (arith, fi.2, fk.2) in
        let same : place_in (order g p) i ≡ place_in (order g p) k = part n (ahead p i fi.0) (ahead p k fk.0) _ _ (low i li) (low k lk) level in
        let equal : i ≡ k = sym (place_at (order g p) i (fires.every i li)) ∙ ap (λ m. get_or (order g p) m 0) same ∙ place_at (order g p) k (fires.every k lk) in
        omega arith
