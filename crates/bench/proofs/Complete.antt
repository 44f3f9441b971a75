-- The firing order never gets stuck, on any bench.
use Rattle.std.proofs.Common.{◌≡◌, ℕ, zero, suc, ◌+◌, ◌-◌, ◌*◌, ◌<◌, ◌≤◌, true, ltb, List, length, get_or, Some, None, Option, sym, refl, ap, ◌∙◌, mul-zero, arith}
use Rattle.std.specs.Option.{option_map}
use Rattle.std.proofs.lemmas.Nat.{mul-le}
use Rattle.std.proofs.lemmas.Bool.{false≢true, and_parts, and_from, eqb-true, lt-ltb}
use Rattle.words.specs.declared.graph.Graph.{Graph}
use Rattle.words.specs.Designs.{feed_at, max_nodes}
use Rattle.bench.specs.declared.retiming.Retiming.{Retiming}
use Rattle.bench.specs.Firing.{place_in}
use Rattle.bench.specs.Orders.{Fires, Ranked}
use Rattle.bench.specs.Retimings.{Sound, at_rest, order, waits, lag_at, delay_of, current_delay, is_zero}
use Rattle.words.specs.ProgramTables.{max_lag}
use Rattle.bench.proofs.AtRest.{rest_delay}
use Rattle.bench.proofs.Fires.{fired_fine, fired_long}
use Rattle.bench.proofs.Lists.{distinct_all, has_at, place_at, place_below}
use Rattle.bench.proofs.Ordered.{source_node}
use Rattle.bench.proofs.Rounds.{rises}

-- a node that waits is fed at current delay 0
pub waits_zero : (g : Graph) (p : Retiming) (i j : ℕ) → waits g p i j ≡ true → (a : ℕ) × (feed_at g i j ≡ Some a) × (delay_of p i j a ≡ 0)
waits_zero g p i j h = by (feed_at g i j) refl (and_parts (ltb j g.count) _ h).1
  where
    by : (o : Option ℕ) → feed_at g i j ≡ o → is_zero (option_map (delay_of p i j) (feed_at g i j)) ≡ true → (a : ℕ) × (feed_at g i j ≡ Some a) × (delay_of p i j a ≡ 0)
    by None e q = absurd (false≢true (sym (ap (λ o. is_zero (option_map (delay_of p i j) o)) e) ∙ q))
    by (Some a) e q = (a, e, eqb-true (delay_of p i j a) 0 (sym (ap (λ o. is_zero (option_map (delay_of p i j) o)) e) ∙ q))

module _ (g : Graph) (few : g.count ≤ max_nodes) (p : Retiming) (s : Sound g p) (all : length (order g at_rest) ≡ g.count) where
  -- the rank at rest, below every node of a smaller lag
  height : ℕ → ℕ
  height i = (max_lag - lag_at p i) * max_nodes + place_in (order g at_rest) i

  low_rank : (i : ℕ) → i < g.count → place_in (order g at_rest) i < max_nodes
  low_rank i l =
      let d = (fired_fine g.count (waits g at_rest) g.count).distinct in
      omega (arith, place_below (order g at_rest) i (distinct_all g.count (order g at_rest) d all i l))

  climbs_by : (i j a : ℕ) → i < g.count → j < g.count → feed_at g i j ≡ Some a → p.factor * a + lag_at p i ≡ lag_at p j → height j < height i
  unfolding height
  climbs_by i j zero li lj e same =
      let r = rises g all i j li lj e in
      omega (arith, mul-zero p.factor)
  climbs_by i j (suc a) li lj e same =
      let more : 1 * 1 ≤ p.factor * suc a = mul-le 1 1 p.factor (suc a) s.slowed (omega arith) in
      omega (arith, low_rank j lj, s.lags j)

  climbs : (i j : ℕ) → i < g.count → j < g.count → waits g p i j ≡ true → height j < height i
  climbs i j li lj h =
      let w = waits_zero g p i j h in
      let low = s.low i j w.0 li w.1 in
      climbs_by i j w.0 li lj w.1 (omega (arith, w.2, source_node p j (omega arith)))

  pub complete : length (order g p) ≡ g.count
  complete = fired_long g.count (waits g p) height climbs g.count (omega arith)

  pub ranked_order : Ranked g.count (current_delay g p) (order g p)
  ranked_order =
      let fine = fired_fine g.count (waits g p) g.count in
      let every = distinct_all g.count (order g p) fine.distinct complete in
      record {
        whole = complete;
        every = every;
        only = fine.distinct.below;
        once = fine.distinct.apart;
        below = λ k l. fine.distinct.below (get_or (order g p) k 0) (has_at (order g p) k (omega (arith, complete)));
        found = λ i l. (omega (arith, place_below (order g p) i (every i l), complete), place_at (order g p) i (every i l));
        rises = λ i j li lj e. (fine.rises i j (every i li) lj (and_from _ _ (lt-ltb j g.count lj) (ap is_zero e ∙ refl))).1;
      }

  pub fires_order : Fires g p (order g p)
  fires_order =
      record { whole = ranked_order.whole; every = ranked_order.every; only = ranked_order.only; once = ranked_order.once; rises = ranked_order.rises }

-- at rest the current delays are the design's own
pub ranked_rest : (g : Graph) (l : List ℕ) → Ranked g.count (current_delay g at_rest) l → Ranked g.count (feed_at g) l
ranked_rest g l f =
    record {
      whole = f.whole;
      every = f.every;
      only = f.only;
      once = f.once;
      below = f.below;
      found = f.found;
      rises = λ i j li lj e. f.rises i j li lj (ap (option_map (delay_of at_rest i j)) e ∙ ap Some (rest_delay i j 0));
    }
