-- A design at rest: K is 1 and no node lags.
use Rattle.std.proofs.Common.{◌≡◌, ℕ, ◌<◌, ◌≤◌, Bool, true, false, cond, eqb, ltb, replicate, Some, None, Option, sym, refl, ap, ◌∙◌, ⊎_elim, one-mul, arith}
use Rattle.std.specs.Option.{option_map}
use Rattle.std.proofs.lemmas.List.{length-replicate, get_or-replicate, get_or_past}
use Rattle.std.proofs.lemmas.Bool.{false≢true, cases_lt, and_parts, and_from, eqb-true, eq-eqb, lt-ltb}
use Rattle.words.specs.declared.graph.Graph.{Graph}
use Rattle.words.specs.Designs.{InRange, feed_at, max_nodes, input}
use Rattle.bench.specs.declared.retiming.NodeRecord.{NodeRecord}
use Rattle.bench.specs.Retimings.{Sound, at_rest, unlagged, lag_at, source_lag, ahead, delay_of, is_zero, waits}
use Rattle.bench.proofs.Soundness.{feed_inside}

pub no_lag : (i : ℕ) → lag_at at_rest i ≡ 0
no_lag i =
    ⊎_elim
    (λ (l : i < max_nodes). ap (λ (r : NodeRecord). r.lag) (get_or-replicate max_nodes i unlagged unlagged l))
    (λ (l : max_nodes ≤ i). ap (λ (r : NodeRecord). r.lag) (get_or_past (replicate max_nodes unlagged) i unlagged (omega (arith, length-replicate max_nodes unlagged))))
    (cases_lt i max_nodes)

no_source_lag : (j : ℕ) → source_lag at_rest j ≡ 0
no_source_lag j = by (eqb j input)
  where
    by : (b : Bool) → cond b 0 (lag_at at_rest j) ≡ 0
    by true = refl
    by false = no_lag j

-- current delays are the design's own
rest_ahead : (i a : ℕ) → ahead at_rest i a ≡ a
rest_ahead i a = omega (arith, one-mul a, no_lag i)

pub rest_delay : (i j a : ℕ) → delay_of at_rest i j a ≡ a
rest_delay i j a = omega (arith, rest_ahead i a, no_source_lag j)

pub sound_rest : (g : Graph) → InRange g → Sound g at_rest
sound_rest g r =
    record {
      table = length-replicate max_nodes unlagged;
      rest = λ i _. no_lag i;
      slowed = omega arith;
      slow = omega arith;
      lags = λ i. omega (arith, no_lag i);
      low = λ i j a l e. omega (arith, no_source_lag j);
      high = λ i j a l e. omega (arith, rest_ahead i a, no_source_lag j, (feed_inside g r i j a e).2);
      output = omega (arith, one-mul g.output.delay, r.output_delay);
    }

-- waiting at rest is hearing a node at delay 0
pub rest_waits : (g : Graph) (i j : ℕ) → waits g at_rest i j ≡ true → feed_at g i j ≡ Some 0
rest_waits g i j h = by (feed_at g i j) refl (and_parts (ltb j g.count) _ h).1
  where
    by : (o : Option ℕ) → feed_at g i j ≡ o → is_zero (option_map (delay_of at_rest i j) (feed_at g i j)) ≡ true → feed_at g i j ≡ Some 0
    by None e q = absurd (false≢true (sym (ap (λ o. is_zero (option_map (delay_of at_rest i j) o)) e) ∙ q))
    by (Some a) e q =
        let z = eqb-true (delay_of at_rest i j a) 0 (sym (ap (λ o. is_zero (option_map (delay_of at_rest i j) o)) e) ∙ q) in
        let zero' : a ≡ 0 = sym (rest_delay i j a) ∙ z in
        e ∙ ap Some zero'

pub rest_waits_if : (g : Graph) (i j : ℕ) → j < g.count → feed_at g i j ≡ Some 0 → waits g at_rest i j ≡ true
rest_waits_if g i j l e = and_from _ _ (lt-ltb j g.count l) (ap (λ o. is_zero (option_map (delay_of at_rest i j) o)) e ∙ eq-eqb (delay_of at_rest i j 0) 0 (rest_delay i j 0))
