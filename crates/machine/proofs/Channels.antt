-- A slowed and lagged array runs K interleaved copies of its source.
use Rattle.std.proofs.Common.{◌≡◌, ℕ, zero, suc, ◌+◌, ◌-◌, ◌*◌, ◌<◌, ◌≤◌, eqb, List, [], ◌∷◌, ◌++◌, map, Some, None, Option, sym, refl, ap, ◌∙◌, subst, ⊎_elim, add-zero, mul-le-mul_right, mul-le-mul_left, arith}
use native.Mathlib.Nat.{mul-sub, sub-zero}
use native.Mathlib.Decide.{dec_le}
use Rattle.std.specs.Option.{option_map}
use Rattle.std.proofs.lemmas.List.{map-append}
use Rattle.std.proofs.lemmas.Bool.{cond-true, cond-false, eq-eqb, ne_eqb, cases_eq}
use Rattle.words.specs.declared.graph.Graph.{Graph}
use Rattle.words.specs.Designs.{InRange, node_at, feed_at, input, sources}
use Rattle.bench.specs.declared.retiming.Retiming.{Retiming}
use Rattle.bench.specs.Firing.{place_in}
use Rattle.bench.specs.Orders.{Ranked}
use Rattle.bench.specs.Retimings.{Sound, lag_at, source_lag, delay_of, ahead, current_delay, latency}
use Rattle.cells.specs.Meaning.{Meaning, applied}
use Rattle.words.specs.declared.program_table.Tap.{Tap}
use Rattle.machine.specs.Values.{past, heard, operand, Solves, output}
use Rattle.bench.specs.Tables.{tap_at, taps_to}
use Rattle.machine.specs.Arrays.{array_of, Runs, put_out, ChannelsKeepTime}
use Rattle.machine.proofs.Histories.{past_at, past_rest, given_input, given_node, source_node}

-- The past of a value that starts at d' and goes in channel r of K, read with the lag d, is the past of the channel's value.
module _ {E : Type 0} (f g : ℕ → E) (rest : E) (K r t a d d' : ℕ) (in-K : r < K) (legal : d' ≤ K * a + d)
    (low : (τ : ℕ) → τ < d' → f τ ≡ rest) (same : a ≤ t → f (K * (t - a) + r + d') ≡ g (t - a)) where
  reached : a ≤ t → past f rest (K * t + r + d) (K * a + d - d') ≡ past g rest t a
  reached h =
      let e : K * t + r + d - (K * a + d - d') ≡ K * (t - a) + r + d' = omega (arith, mul-sub K t a, mul-le-mul_left K h) in
      past_at f rest _ _ (omega (arith, mul-le-mul_left K h)) ∙ ap f e ∙ same h ∙ sym (past_at g rest t a h)

  before : t < a → past f rest (K * t + r + d) (K * a + d - d') ≡ rest
  before h =
      elim (dec_le (K * a + d - d') (K * t + r + d)) [
        | yes k ↦ past_at f rest _ _ k ∙ low _ (omega (arith, mul-le-mul_left K h))
        | no k ↦ past_rest f rest _ _ (omega arith)
      ]

  pub past_moved : past f rest (K * t + r + d) (K * a + d - d') ≡ past g rest t a
  past_moved = elim (dec_le a t) [ yes h ↦ reached h | no h ↦ before (omega arith) ∙ sym (past_rest g rest t a (omega arith)) ]

-- rows of taps whose delays are moved
taps_moved : {X : Type 0} (f g : Tap → X) (row : ℕ → Option ℕ) (move : ℕ → ℕ → ℕ) (k : ℕ) →
    ((j a : ℕ) → j < k → row j ≡ Some a → f (record { source = j; delay = move j a }) ≡ g (record { source = j; delay = a })) →
    map f (taps_to (λ j. option_map (move j) (row j)) k) ≡ map g (taps_to row k)
unfolding taps_to
taps_moved f g row move zero h = refl
taps_moved f g row move (suc k) h =
    map-append f (taps_to (λ j. option_map (move j) (row j)) k) (tap_at k (option_map (move k) (row k)))
    ∙ (λ i. taps_moved f g row move k (λ j a l e. h j a (omega arith) e) i ++ last (row k) refl i)
    ∙ sym (map-append g (taps_to row k) (tap_at k (row k)))
  where
    last : (o : Option ℕ) → row k ≡ o → map f (tap_at k (option_map (move k) o)) ≡ map g (tap_at k o)
    last None e = refl
    last (Some a) e = ap (λ y. y ∷ []) (h k a (omega arith) e)

module _ {E A : Type 0} (g : Graph) (range : InRange g) (p : Retiming) (sound : Sound g p) (order : List ℕ) (ranked : Ranked g.count (feed_at g) order) (m : Meaning E A)
    (rest x : ℕ → E) (u : ℕ → ℕ → E) (runs : Runs (array_of g p) m rest x u) (r : ℕ) (in-K : r < p.factor)
    (v : ℕ → ℕ → E) (solves : Solves g m rest (λ t. x (p.factor * t + r)) v) where
  abbrev K : ℕ
  K = p.factor

  -- the input of channel r
  abbrev own : ℕ → E
  own t = x (K * t + r)

  no_lag : (j : ℕ) → j ≡ input → source_lag p j ≡ 0
  no_lag j e = cond-true (eqb j input) 0 (lag_at p j) (eq-eqb j input e)

  node_lag : (j : ℕ) → (j ≡ input → ⊥) → source_lag p j ≡ lag_at p j
  node_lag j other = cond-false (eqb j input) 0 (lag_at p j) (ne_eqb j input other)

  module _ (i t : ℕ) (li : i < g.count) (known : (j s : ℕ) → j < g.count → s * g.count + place_in order j < t * g.count + place_in order i → u j (K * s + r + lag_at p j) ≡ v j s) where
    falls : (j a : ℕ) → j < g.count → feed_at g i j ≡ Some a → a ≤ t → (t - a) * g.count + place_in order j < t * g.count + place_in order i
    falls j zero lj e l = subst (λ s. s * g.count + place_in order j < t * g.count + place_in order i) (sym (sub-zero t)) (omega (arith, ranked.rises i j li lj e))
    falls j (suc a) lj e l =
        let s : suc (t - suc a) ≤ t = omega arith in
        omega (arith, mul-le-mul_right g.count s, (ranked.found j lj).0)

    -- what a tap from the input hears
    from_input : (j a : ℕ) → j ≡ input → heard rest u x (K * t + r + lag_at p i) j (delay_of p i j a) ≡ heard rest v own t j a
    from_input j a e =
        ap (λ (f : ℕ → E). past f (rest j) (K * t + r + lag_at p i) (delay_of p i j a)) (given_input u x j e)
        ∙ ap (λ n. past x (rest j) (K * t + r + lag_at p i) (ahead p i a - n)) (no_lag j e)
        ∙ past_moved x own (rest j) K r t a (lag_at p i) 0 in-K (omega arith) (λ τ lt. absurd (omega arith)) (λ le. ap x (add-zero _))
        ∙ ap (λ (f : ℕ → E). past f (rest j) t a) (sym (given_input v own j e))

    -- what a tap from a node hears
    from_node : (j a : ℕ) → (j ≡ input → ⊥) → feed_at g i j ≡ Some a → heard rest u x (K * t + r + lag_at p i) j (delay_of p i j a) ≡ heard rest v own t j a
    from_node j a other e =
        let lj : j < g.count = source_node g.count j ((range.nodes i (omega (arith, range.few))).heard j a e) other in
        ap (λ (f : ℕ → E). past f (rest j) (K * t + r + lag_at p i) (delay_of p i j a)) (given_node u x j other)
        ∙ ap (λ n. past (u j) (rest j) (K * t + r + lag_at p i) (ahead p i a - n)) (node_lag j other)
        ∙ past_moved (u j) (v j) (rest j) K r t a (lag_at p i) (lag_at p j) in-K (omega (arith, sound.low i j a li e, node_lag j other)) (λ τ lt. runs.holds j τ lj lt)
        (λ le. known j (t - a) lj (falls j a lj e le))
        ∙ ap (λ (f : ℕ → E). past f (rest j) t a) (sym (given_node v own j other))

    same_operands : map (operand (heard rest u x (K * t + r + lag_at p i))) (taps_to (current_delay g p i) sources) ≡ map (operand (heard rest v own t)) (taps_to (feed_at g i) sources)
    same_operands =
        taps_moved (operand (heard rest u x (K * t + r + lag_at p i))) (operand (heard rest v own t)) (feed_at g i) (delay_of p i) sources
        (λ j a lj e. ap (λ y. (j, y)) (⊎_elim (λ (is : j ≡ input). from_input j a is) (λ (other : j ≡ input → ⊥). from_node j a other e) (cases_eq j input)))

    at_node : u i (K * t + r + lag_at p i) ≡ v i t
    at_node = runs.computes i (K * t + r + lag_at p i) li (omega arith) ∙ ap (applied m (node_at g i).operation) same_operands ∙ sym (solves i t li)

  kept_by : (f i t : ℕ) → i < g.count → t * g.count + place_in order i < f → u i (K * t + r + lag_at p i) ≡ v i t
  kept_by zero i t li b = absurd (omega arith)
  kept_by (suc f) i t li b = at_node i t li (λ j s lj low. kept_by f j s lj (omega arith))

  pub kept : (i t : ℕ) → i < g.count → u i (K * t + r + lag_at p i) ≡ v i t
  kept i t li = kept_by (suc (t * g.count + place_in order i)) i t li (omega arith)

  pub kept_out : (t : ℕ) → put_out (array_of g p) rest u (K * t + r + latency g p) ≡ output g rest v t
  kept_out t =
      let o = g.output.node in
      let c = g.output.delay in
      let e : K * c ≡ K * c + lag_at p o - lag_at p o = omega arith in
      ap (past (u o) (rest o) (K * t + r + lag_at p o)) e
      ∙ past_moved (u o) (v o) (rest o) K r t c (lag_at p o) (lag_at p o) in-K (omega arith) (λ τ lt. runs.holds o τ range.output_node lt) (λ le. kept o (t - c) range.output_node)

pub channels : {E A : Type 0} (g : Graph) → InRange g → (p : Retiming) → Sound g p → (order : List ℕ) → Ranked g.count (feed_at g) order → (m : Meaning E A) → ChannelsKeepTime g p m
channels g range p sound order ranked m rest x u runs r in-K v solves =
    (kept g range p sound order ranked m rest x u runs r in-K v solves, kept_out g range p sound order ranked m rest x u runs r in-K v solves)
