use Rattle.std.proofs.Common.{◌≡◌, ℕ, ◌<◌, false, cond, List, length, drop, Some, None, Option, sym, refl, ap, ap₂, ◌∙◌, subst, arith}
use Rattle.words.specs.declared.design.Design.{Design}
use Rattle.words.specs.declared.graph.Graph.{Graph}
use Rattle.words.proofs.Ranges.{ranges}
use Rattle.bench.specs.declared.retiming.Retiming.{Retiming}
use Rattle.bench.specs.First.{first}
use Rattle.bench.specs.Buffers.{overlaid}
use Rattle.bench.specs.Firing.{has, place_in, next}
use Rattle.bench.specs.Refusals.{zero_cycle}
use Rattle.bench.specs.Retimings.{Sound, order, waits, at_rest}
use Rattle.bench.specs.Walks.{Closed}
use Rattle.bench.proofs.AtRest.{sound_rest}
use Rattle.bench.proofs.Listed.{rank_is}
use Rattle.bench.proofs.Rounds.{well_defined}
use Rattle.bench.proofs.Walking.{left_out, none_out, round, round_zero, round_cycle}
use Rattle.bench.proofs.bench.Bench.open.Goals as goal

-- the firing order l of a design d that stands at rest
module _ (d e : Design) (q : Retiming) (des : e ≡ d) (ret : q ≡ at_rest) (l : List ℕ) (fired : l ≡ order e.graph q) where
  is : l ≡ order d.graph at_rest
  is = fired ∙ ap₂ (λ (x : Design) p. order x.graph p) des ret

  -- its lowest unlisted node
  module _ (n : ℕ) (count : n ≡ d.graph.count) (o : Option ℕ) (lowest : o ≡ first (λ i. cond (has l i) None (Some i)) n) where
    here : first (λ i. cond (has (order d.graph at_rest) i) None (Some i)) d.graph.count ≡ o
    here = ap₂ (λ m k. first (λ i. cond (has m i) None (Some i)) k) (sym is) (sym count) ∙ sym lowest

    pub whole : o ≡ None → length (order d.graph at_rest) ≡ d.graph.count
    whole h = none_out d.graph.count (waits d.graph at_rest) (here ∙ h)

    pub stuck : (i : ℕ) → o ≡ Some i → (i < e.graph.count) × (has l i ≡ false) × (next e.graph.count (waits e.graph q) l ≡ None)
    stuck i h =
        let r = left_out d.graph.count (waits d.graph at_rest) i (here ∙ h) in (
          subst (λ (x : Design). i < x.graph.count) (sym des) r.0,
          ap (λ m. has m i) is ∙ r.1,
          ap₂ (λ (x : Design) p. next x.graph.count (waits x.graph p) l) des ret ∙ ap (next d.graph.count (waits d.graph at_rest)) is ∙ r.2,
        )

  -- where the walk closes
  pub closed_at_rest : (path : List ℕ) (node : ℕ) → Closed e.graph.count (waits e.graph q) path node → Closed d.graph.count (waits d.graph at_rest) path node
  closed_at_rest path node c = subst (λ p. Closed d.graph.count (waits d.graph p) path node) ret (subst (λ (x : Design). Closed x.graph.count (waits x.graph q) path node) des c)

pub invariant_of-result : goal.invariant_of-result
invariant_of-result c =
    let g : Graph = c.args.design.now.graph in
    let rest = c.at_rest-at_rest.ensures in
    record {
      sound = ∣ subst (λ p. Sound g p) (sym c.resting-retiming.ensures) (sound_rest g (ranges g c.args.design.now.sound)) ∣₁;
      ordered =
          whole c.args.design.now c.at_rest-at_rest.result.design.now c.at_rest-at_rest.result.retiming.now rest.design rest.retiming c.firing-order.result c.firing-order.ensures
          c.count-2.result c.count-2.ensures c.unlisted.result c.unlisted.ensures c.in_default.is;
    }

pub returns-in_default : goal.returns-in_default
returns-in_default c =
    let rest = c.at_rest-at_rest.ensures in
    let all =
    whole c.args.design.now c.at_rest-at_rest.result.design.now c.at_rest-at_rest.result.retiming.now rest.design rest.retiming c.firing-order.result c.firing-order.ensures
    c.count-2.result c.count-2.ensures c.unlisted.result c.unlisted.ensures c.in_default.is in
    record {
      short = λ l. absurd (omega (arith, c.if-cycle-count.false, c.count.ensures));
      opens = λ l. (well_defined c.args.design.now.graph all, refl, c.resting-retiming.ensures, refl);
    }

pub walk-path-requires : goal.walk-path-requires
walk-path-requires c =
    let rest = c.at_rest-at_rest.ensures in
    let s =
    stuck c.args.design.now c.at_rest-at_rest.result.design.now c.at_rest-at_rest.result.retiming.now rest.design rest.retiming c.firing-order.result c.firing-order.ensures
    c.count-2.result c.count-2.ensures c.unlisted.result c.unlisted.ensures c.in-Some.start c.in-Some.is in
    record { stuck = s.2; start = s.0; unlisted = s.1 }

-- this stands before what `copy_from` asks, so that the check names another cycle first by what is promised of it
pub returns : goal.returns
unfolding round
returns c =
    let g : Graph = c.args.design.now.graph in
    let rest = c.at_rest-at_rest.ensures in
    let path : List ℕ = c.walk-path.result.0 in
    let node : ℕ = c.walk-path.result.1 in
    let closed =
    closed_at_rest c.args.design.now c.at_rest-at_rest.result.design.now c.at_rest-at_rest.result.retiming.now rest.design rest.retiming c.firing-order.result c.firing-order.ensures path node c.walk-path.ensures in
    let at : c.from.result ≡ place_in path node = c.from.ensures ∙ (rank_is path node c.unwrap-rank.result (sym c.rank_of.ensures ∙ c.unwrap-rank.ensures)).1 in
    record {
      short = λ l. absurd (omega (arith, c.if-cycle-count.false, c.count.ensures));
      opens = λ l. (
        round g path node closed,
        round_cycle g path node closed,
        round_zero g path node closed,
        c.refused-2.ensures ∙ ap zero_cycle (c.copy_from.ensures.count ∙ ap (λ n. length (drop n path)) at),
        c.copy_from.ensures.buffer ∙ ap (λ n. overlaid c.args.cycle.now 0 (drop n path)) at,
      );
    }

pub copy_from-requires-clause-rank : goal.copy_from-requires-clause-rank
copy_from-requires-clause-rank c = rw c.from.ensures (rank_is c.walk-path.result.0 c.walk-path.result.1 c.unwrap-rank.result (sym c.rank_of.ensures ∙ c.unwrap-rank.ensures)).2
