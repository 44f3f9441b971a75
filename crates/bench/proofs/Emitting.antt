-- The steps of emitting a program.
use Rattle.std.proofs.Common.{◌≡◌, ℕ, zero, suc, ◌+◌, ◌<◌, ◌≤◌, Bool, true, false, cond, eqb, max, ◌⊎◌, ◌*◌, List, [], ◌∷◌, ◌++◌, length, get_or, Some, None, Option, unwrap_or, sym, refl, ap, ◌∙◌, subst, inl, inr, ⊎_elim, add-one, arith}
use Rattle.std.specs.Option.{option_map}
use Rattle.std.proofs.lemmas.List.{append-nil, length-append}
use Rattle.std.proofs.lemmas.Bool.{cases_lt, cases_eq, cond-true, cond-false, eq-eqb, ne_eqb}
use Rattle.words.specs.declared.graph.Graph.{Graph}
use Rattle.words.specs.Designs.{InRange, feed_at, input}
use Rattle.words.specs.Programs.{line_word}
use Rattle.bench.specs.declared.retiming.Retiming.{Retiming}
use Rattle.bench.specs.Programs.{in_turn, line_at, tap_if, taps, cell, cells, output_reach, reach, line_length, Reaches}
use Rattle.bench.specs.Retimings.{Sound, order, current_delay, delay_of, output_delay}
use Rattle.words.specs.ProgramTables.{max_delay}
use Rattle.bench.proofs.Settled.{fed}
use Rattle.bench.proofs.Soundness.{feed_inside}
use Rattle.bench.proofs.Writing.{appended}

pub turn_none : (f : ℕ → List ℕ) (xs : List ℕ) → xs ≡ xs ++ in_turn f 0
unfolding in_turn
turn_none f xs = sym (append-nil xs)

pub turn_more : (f : ℕ → List ℕ) (xs : List ℕ) (k : ℕ) {ys zs : List ℕ} → ys ≡ xs ++ in_turn f k → zs ≡ ys ++ f k → zs ≡ xs ++ in_turn f (k + 1)
unfolding in_turn
turn_more f xs k e q = appended xs (in_turn f k) (f k) e q ∙ ap (λ n. xs ++ in_turn f n) (sym (add-one k))

-- turns of at most m words each
pub turns_few : (f : ℕ → List ℕ) (m : ℕ) → ((k : ℕ) → length (f k) ≤ m) → (k : ℕ) → length (in_turn f k) ≤ k * m
unfolding in_turn
turns_few f m few zero = omega arith
turns_few f m few (suc k) = omega (arith, turns_few f m few k, few k, length-append (in_turn f k) (f k))

-- how long a program is after so many turns
turns_long : (f : ℕ → List ℕ) (m : ℕ) → ((k : ℕ) → length (f k) ≤ m) → (xs : List ℕ) (k : ℕ) {ys : List ℕ} → ys ≡ xs ++ in_turn f k → length ys ≤ length xs + k * m
turns_long f m few xs k e = omega (arith, ap length e, length-append xs (in_turn f k), turns_few f m few k)

module _ (g : Graph) (p : Retiming) where
  pub lines_long : (xs : List ℕ) (k : ℕ) {ys : List ℕ} → ys ≡ xs ++ in_turn (line_at g p) k → length ys ≤ length xs + k
  lines_long xs k e = omega (arith, turns_long (line_at g p) 1 (λ i. omega arith) xs k e)

  tap_one : (j : ℕ) (o : Option ℕ) → length (tap_if j o) ≤ 1
  tap_one j None = omega arith
  tap_one j (Some d) = omega arith

  pub taps_long : (i : ℕ) (xs : List ℕ) (k : ℕ) {ys : List ℕ} → ys ≡ xs ++ taps g p i k → length ys ≤ length xs + k
  taps_long i xs k e = omega (arith, turns_long (λ j. tap_if j (current_delay g p i j)) 1 (λ j. tap_one j (current_delay g p i j)) xs k e)

  cell_few : (i : ℕ) → length (cell g p i) ≤ 34
  cell_few i = omega (arith, turns_few (λ j. tap_if j (current_delay g p i j)) 1 (λ j. tap_one j (current_delay g p i j)) 33)

  pub cells_long : (xs : List ℕ) (k : ℕ) {ys : List ℕ} → ys ≡ xs ++ cells g p k → length ys ≤ length xs + k * 34
  cells_long xs k e = turns_long (λ r. cell g p (get_or (order g p) r 0)) 34 (λ r. cell_few (get_or (order g p) r 0)) xs k e

-- the lines in their places
pub node_line : (g : Graph) (p : Retiming) (i : ℕ) → i < g.count → line_word i (line_length g p i) ∷ [] ≡ line_at g p i
node_line g p i l = ap (λ j. line_word j (line_length g p j) ∷ []) (sym (cond-false _ input i (ne_eqb i g.count (λ e. omega arith))))

pub input_line : (g : Graph) (p : Retiming) → line_word input (line_length g p input) ∷ [] ≡ line_at g p g.count
input_line g p = ap (λ j. line_word j (line_length g p j) ∷ []) (sym (cond-true _ input g.count (eq-eqb g.count g.count refl)))

max_either : (a b : ℕ) → ((max a b ≡ a) × (b ≤ a)) ⊎ ((max a b ≡ b) × (a < b))
max_either a b = ⊎_elim (λ (l : a < b). inr (omega arith, l)) (λ (l : b ≤ a). inl (omega arith, l)) (cases_lt a b)

module _ (g : Graph) (p : Retiming) (j : ℕ) where
  pub reach_first : (n : ℕ) → n ≡ output_reach g p j → n ≡ reach g p j 0
  unfolding reach
  reach_first n e = e

  -- one node more
  pub reach_some : (k a : ℕ) → feed_at g k j ≡ Some a → max (reach g p j k) (delay_of p k j a) ≡ reach g p j (k + 1)
  unfolding reach
  reach_some k a e = ap (λ o. max (reach g p j k) (unwrap_or (option_map (delay_of p k j) o) 0)) (sym e) ∙ ap (reach g p j) (sym (add-one k))

  pub reach_none : (k : ℕ) → feed_at g k j ≡ None → reach g p j k ≡ reach g p j (k + 1)
  unfolding reach
  reach_none k e =
      omega (arith, ap (λ o. unwrap_or (option_map (delay_of p k j) o) 0) e) ∙ ap (reach g p j) (sym (add-one k))

pub delay_few : (g : Graph) → InRange g → (p : Retiming) → Sound g p → (i j d : ℕ) → current_delay g p i j ≡ Some d → d ≤ max_delay
delay_few g r p s i j d e =
    let f = fed g p i j d e in
    let inside = feed_inside g r i j f.0 f.1 in
    omega (arith, f.2, s.high i j f.0 inside.0 f.1)

module _ (g : Graph) (r : InRange g) (p : Retiming) (s : Sound g p) (j : ℕ) where
  value_few : (k : ℕ) → unwrap_or (current_delay g p k j) 0 ≤ max_delay
  value_few k = by (current_delay g p k j) refl
    where
      by : (o : Option ℕ) → current_delay g p k j ≡ o → unwrap_or o 0 ≤ max_delay
      by None e = omega arith
      by (Some d) e = delay_few g r p s k j d e

  output_few : output_reach g p j ≤ max_delay
  output_few = by (eqb g.output.node j)
    where
      by : (b : Bool) → cond b (output_delay g p) 0 ≤ max_delay
      by true = s.output
      by false = omega arith

  reach_few : (k : ℕ) → reach g p j k ≤ max_delay
  unfolding reach
  reach_few zero = output_few
  reach_few (suc k) =
      ⊎_elim
      (λ (h : (max (reach g p j k) (unwrap_or (current_delay g p k j) 0) ≡ reach g p j k) × (unwrap_or (current_delay g p k j) 0 ≤ reach g p j k)). omega (arith, h.0, reach_few k))
      (λ (h : (max (reach g p j k) (unwrap_or (current_delay g p k j) 0) ≡ unwrap_or (current_delay g p k j) 0) × (reach g p j k < unwrap_or (current_delay g p k j) 0)). omega (arith, h.0, value_few k))
      (max_either (reach g p j k) (unwrap_or (current_delay g p k j) 0))

  pub line_few : line_length g p j ≤ max_delay
  line_few = reach_few g.count

-- the law of a line's length
module _ (g : Graph) (p : Retiming) (j : ℕ) where
  grows : (k : ℕ) → (reach g p j k ≤ reach g p j (suc k)) × (unwrap_or (current_delay g p k j) 0 ≤ reach g p j (suc k))
  unfolding reach
  grows k =
      ⊎_elim
      (λ (h : (max (reach g p j k) (unwrap_or (current_delay g p k j) 0) ≡ reach g p j k) × (unwrap_or (current_delay g p k j) 0 ≤ reach g p j k)). (omega (arith, h.0), omega (arith, h.0, h.1)))
      (λ (h : (max (reach g p j k) (unwrap_or (current_delay g p k j) 0) ≡ unwrap_or (current_delay g p k j) 0) × (reach g p j k < unwrap_or (current_delay g p k j) 0)). (omega (arith, h.0, h.1), omega (arith, h.0)))
      (max_either (reach g p j k) (unwrap_or (current_delay g p k j) 0))

  taps_reached : (k i d : ℕ) → i < k → current_delay g p i j ≡ Some d → d ≤ reach g p j k
  taps_reached zero i d l e = absurd (omega arith)
  taps_reached (suc k) i d l e =
      ⊎_elim
      (λ (q : i ≡ k). omega (arith, (grows k).1, ap (λ o. unwrap_or o 0) (sym (ap (λ m. current_delay g p m j) q) ∙ e)))
      (λ (q : i ≡ k → ⊥). omega (arith, (grows k).0, taps_reached k i d (omega (arith, q)) e))
      (cases_eq i k)

  output_reached : (k : ℕ) → g.output.node ≡ j → output_delay g p ≤ reach g p j k
  unfolding reach
  output_reached zero e = omega (arith, cond-true (eqb g.output.node j) (output_delay g p) 0 (eq-eqb g.output.node j e))
  output_reached (suc k) e = omega (arith, (grows k).0, output_reached k e)

  Met : ℕ → ℕ → Type 0
  Met k l = (l ≡ 0) ⊎ (((g.output.node ≡ j) × (l ≡ output_delay g p)) ⊎ ((i : ℕ) × (i < k) × (current_delay g p i j ≡ Some l)))

  met_more : (k l : ℕ) → Met k l → Met (suc k) l
  unfolding Met
  met_more k l (inl z) = inl z
  met_more k l (inr (inl o)) = inr (inl o)
  met_more k l (inr (inr t)) = inr (inr (t.0, omega (arith, t.1), t.2))

  met : (k : ℕ) → Met k (reach g p j k)
  unfolding reach Met
  met zero =
      ⊎_elim
      (λ (e : g.output.node ≡ j). inr (inl (e, cond-true (eqb g.output.node j) (output_delay g p) 0 (eq-eqb g.output.node j e))))
      (λ (e : g.output.node ≡ j → ⊥). inl (cond-false (eqb g.output.node j) (output_delay g p) 0 (ne_eqb g.output.node j e)))
      (cases_eq g.output.node j)
  met (suc k) =
      ⊎_elim
      (λ (h : (max (reach g p j k) (unwrap_or (current_delay g p k j) 0) ≡ reach g p j k) × (unwrap_or (current_delay g p k j) 0 ≤ reach g p j k)).
      subst (Met (suc k)) (sym h.0) (met_more k (reach g p j k) (met k)))
      (λ (h : (max (reach g p j k) (unwrap_or (current_delay g p k j) 0) ≡ unwrap_or (current_delay g p k j) 0) × (reach g p j k < unwrap_or (current_delay g p k j) 0)).
      subst (Met (suc k)) (sym h.0) (here (current_delay g p k j) refl (omega (arith, h.1))))
      (max_either (reach g p j k) (unwrap_or (current_delay g p k j) 0))
    where
      here : (o : Option ℕ) → current_delay g p k j ≡ o → 0 < unwrap_or o 0 → Met (suc k) (unwrap_or (current_delay g p k j) 0)
      here None e l = absurd (omega arith)
      here (Some d) e l = inr (inr (k, omega arith, e ∙ ap Some (sym (ap (λ o. unwrap_or o 0) e))))

  pub reaches : Reaches g p j (line_length g p j)
  unfolding Met
  reaches = record { taps = λ i d l e. taps_reached g.count i d l e; output = output_reached g.count; reached = met g.count }
