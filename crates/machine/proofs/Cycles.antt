-- An array has one history, if its cells stand in an order in which each tap of delay 0 from a node reads an earlier cell.
use Rattle.std.proofs.Common.{◌≡◌, ℕ, zero, suc, ◌+◌, ◌-◌, ◌*◌, ◌<◌, ◌≤◌, true, cond, ltb, map, is_some, Some, None, List, Option, sym, refl, ap, ◌∙◌, subst, ⊎_elim, mul-le-mul_right, arith}
use native.Mathlib.Nat.{sub-zero}
use Rattle.std.specs.Option.{option_map}
use Rattle.std.proofs.lemmas.List.Elements.{All-from_recursion, All-weaker, recursion_from_All}
use Rattle.std.proofs.lemmas.Bool.{true≢false, cond-true, cond-false, lt-ltb, le-ltb, cases_lt}
use Rattle.words.specs.declared.graph.Graph.{Graph}
use Rattle.words.specs.Designs.{InRange, feed_at, sources, is_source}
use Rattle.bench.specs.declared.retiming.Retiming.{Retiming}
use Rattle.bench.specs.Firing.{place_in}
use Rattle.bench.specs.Orders.{Ranked}
use Rattle.bench.specs.Retimings.{delay_of, current_delay}
use Rattle.cells.specs.Meaning.{Meaning, applied}
use Rattle.machine.specs.Values.{heard, operand}
use Rattle.bench.specs.Tables.{taps_to}
use Rattle.machine.specs.Arrays.{Array, array_of, Earlier, Ordered, Runs, ArrayDetermined}
use Rattle.machine.proofs.Histories.{taps_all, map_alike, heard_alike, source_node}

module _ {E A : Type 0} (a : Array) (rank : ℕ → ℕ) (ordered : Ordered a rank) (m : Meaning E A) (rest x : ℕ → E) where
  -- what the taps of a cell hear
  abbrev hears : (ℕ → ℕ → E) → ℕ → ℕ → E
  hears u i τ = applied m (a.operation i) (map (operand (heard rest u x τ)) (a.taps i))

  -- cells hear alike where the values that they read are alike
  hears_alike : (u w : ℕ → ℕ → E) (i τ : ℕ) → i < a.count → ((j s : ℕ) → j < a.count → s * a.count + rank j < τ * a.count + rank i → u j s ≡ w j s) → hears u i τ ≡ hears w i τ
  hears_alike u w i τ li h =
      ap (applied m (a.operation i))
      (map_alike (operand (heard rest u x τ)) (operand (heard rest w x τ)) (a.taps i)
      (recursion_from_All (λ tap. operand (heard rest u x τ) tap ≡ operand (heard rest w x τ) tap) (a.taps i)
      (All-weaker (Earlier a rank i) (λ tap. operand (heard rest u x τ) tap ≡ operand (heard rest w x τ) tap)
      (λ tap earlier.
      ap (λ y. (tap.source, y))
      (heard_alike rest u w x τ tap.source tap.delay
      (λ other l. let lj = source_node a.count tap.source earlier.0 other in h tap.source (τ - tap.delay) lj (falls tap.source tap.delay lj (λ e. earlier.1 lj e) l))))
      (a.taps i) (ordered.taps i li))))
    where
      falls : (j d : ℕ) → j < a.count → (d ≡ 0 → rank j < rank i) → d ≤ τ → (τ - d) * a.count + rank j < τ * a.count + rank i
      falls j zero lj e l = subst (λ s. s * a.count + rank j < τ * a.count + rank i) (sym (sub-zero τ)) (omega (arith, e refl))
      falls j (suc d) lj e l =
          let s : suc (τ - suc d) ≤ τ = omega arith in
          omega (arith, mul-le-mul_right a.count s, ordered.ranks j lj)

  -- what cell i holds at τ, followed back as far as the fuel goes
  value : ℕ → ℕ → ℕ → E
  value zero i τ = rest i
  value (suc f) i τ = cond (ltb τ (a.lag i)) (rest i) (hears (value f) i τ)

  stable : (f h i τ : ℕ) → i < a.count → τ * a.count + rank i < f → τ * a.count + rank i < h → value f i τ ≡ value h i τ
  unfolding value
  stable zero h i τ l b c = absurd (omega arith)
  stable (suc f) zero i τ l b c = absurd (omega arith)
  stable (suc f) (suc h) i τ l b c =
      ap (cond (ltb τ (a.lag i)) (rest i)) (hears_alike (value f) (value h) i τ l (λ j s lj lt. stable f h j s lj (omega arith) (omega arith)))

  history : ℕ → ℕ → E
  history i τ = value (suc (τ * a.count + rank i)) i τ

  runs : Runs a m rest x history
  unfolding history value
  runs =
      record {
        holds = λ i τ l lt. cond-true (ltb τ (a.lag i)) (rest i) _ (lt-ltb τ (a.lag i) lt);
        computes = λ i τ l le.
            cond-false (ltb τ (a.lag i)) (rest i) _ (le-ltb τ (a.lag i) le)
            ∙ hears_alike (value (τ * a.count + rank i)) history i τ l (λ j s lj lt. stable (τ * a.count + rank i) (suc (s * a.count + rank j)) j s lj lt (omega arith));
      }

  agree_by : (f : ℕ) (u w : ℕ → ℕ → E) → Runs a m rest x u → Runs a m rest x w → (i τ : ℕ) → i < a.count → τ * a.count + rank i < f → u i τ ≡ w i τ
  agree_by zero u w q s i τ l b = absurd (omega arith)
  agree_by (suc f) u w q s i τ l b =
      ⊎_elim
      (λ (early : τ < a.lag i). q.holds i τ l early ∙ sym (s.holds i τ l early))
      (λ (late : a.lag i ≤ τ).
      q.computes i τ l late ∙ hears_alike u w i τ l (λ j t lj lt. agree_by f u w q s j t lj (omega arith)) ∙ sym (s.computes i τ l late))
      (cases_lt τ (a.lag i))

  pub determined : ArrayDetermined a m rest x
  determined =
      record { history = history; runs = runs; agree = λ u w q s i τ l. agree_by (suc (τ * a.count + rank i)) u w q s i τ l (omega arith) }

-- the array of a design that is slowed and lagged stands in its firing order
module _ (g : Graph) (range : InRange g) (p : Retiming) (order : List ℕ) (fires : Ranked g.count (current_delay g p) order) where
  -- a tap at a current delay belongs to a feed
  tap_feed : (i j d : ℕ) → current_delay g p i j ≡ Some d → (a : ℕ) × (feed_at g i j ≡ Some a)
  tap_feed i j d e = by (feed_at g i j) refl e
    where
      by : (o : Option ℕ) → feed_at g i j ≡ o → option_map (delay_of p i j) o ≡ Some d → (a : ℕ) × (feed_at g i j ≡ Some a)
      by None is q = absurd (true≢false (sym (ap is_some q)))
      by (Some a) is q = (a, is)

  -- so it hears a source
  pub tap_source : (i j d : ℕ) → i < g.count → current_delay g p i j ≡ Some d → is_source g.count j ≡ true
  tap_source i j d l e = let f = tap_feed i j d e in (range.nodes i (omega (arith, range.few))).heard j f.0 f.1

  pub in_firing_order : Ordered (array_of g p) (place_in order)
  in_firing_order =
      record {
        few = range.few;
        ranks = λ i l. (fires.found i l).0;
        taps = λ i l.
            All-from_recursion (Earlier (array_of g p) (place_in order) i) (taps_to (current_delay g p i) sources)
            (taps_all (Earlier (array_of g p) (place_in order) i) (current_delay g p i) sources
            (λ j d lj e. (tap_source i j d l e, λ ln zero_delay. fires.rises i j l ln (e ∙ ap Some zero_delay))));
      }
