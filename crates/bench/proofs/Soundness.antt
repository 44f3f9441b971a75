-- What the type of a bench says, out of its ghost field.
use Rattle.std.proofs.Common.{◌≡◌, ℕ, ◌+◌, ◌*◌, ◌<◌, ◌≤◌, List, length, get_or, take, is_some, Some, sym, ap, ◌∙◌, ⊎_elim, arith}
use mathlib.Core.Logic.{∥∥₁_elim}
use native.Mathlib.Bridge.{le_prop}
use native.Mathlib.Nat.{ℕ_set}
use Rattle.std.proofs.lemmas.Nat.{mul-le}
use Rattle.std.proofs.lemmas.List.{length-take-le, get_or-take}
use Rattle.std.proofs.lemmas.Bool.{true≢false, cases_lt}
use Rattle.words.specs.declared.graph.Node.{Node}
use Rattle.words.specs.declared.graph.Graph.{Graph}
use Rattle.words.specs.Designs.{InRange, node_at, feed_at, absent, sources, byte, max_nodes}
use Rattle.words.proofs.Ranges.{feed_past_nodes, feed_past_sources}
use Rattle.bench.specs.declared.retiming.Retiming.{Retiming}
use Rattle.bench.specs.Retimings.{Sound, ahead, source_lag, lag_at}
use Rattle.words.specs.ProgramTables.{max_lag, max_delay}

sound_prop : (g : Graph) (p : Retiming) (x y : Sound g p) → x ≡ y
sound_prop g p x y =
    λ t.
    record {
      table = ℕ_set _ _ x.table y.table t;
      rest = λ i l. ℕ_set _ _ (x.rest i l) (y.rest i l) t;
      slowed = le_prop x.slowed y.slowed t;
      slow = le_prop x.slow y.slow t;
      lags = λ i. le_prop (x.lags i) (y.lags i) t;
      low = λ i j a l e. le_prop (x.low i j a l e) (y.low i j a l e) t;
      high = λ i j a l e. le_prop (x.high i j a l e) (y.high i j a l e) t;
      output = le_prop x.output y.output t;
    }

pub sound : (g : Graph) (p : Retiming) → ∥ Sound g p ∥₁ → Sound g p
sound g p t = ∥∥₁_elim t (sound_prop g p) (λ x. x)

-- a feed that is there comes to a node, from a source, with a delay of eight bits
pub feed_inside : (g : Graph) → InRange g → (i j a : ℕ) → feed_at g i j ≡ Some a → (i < g.count) × (j < sources) × (a < byte)
feed_inside g r i j a e =
    let here : i < g.count =
    ⊎_elim (λ (l : i < g.count). l) (λ (l : g.count ≤ i). absurd (true≢false (ap is_some (sym e ∙ feed_past_nodes g r i j l)))) (cases_lt i g.count) in (
      here,
      ⊎_elim (λ (l : j < sources). l) (λ (l : sources ≤ j). absurd (true≢false (ap is_some (sym e ∙ feed_past_sources g r i j l)))) (cases_lt j sources),
      (r.nodes i (omega (arith, r.few))).delays j a e,
    )

-- its current delay is in range, and no number on the way to it is large
pub feed_fits : (g : Graph) (p : Retiming) → InRange g → Sound g p → (i j a : ℕ) → feed_at g i j ≡ Some a →
    (i < max_nodes) × (j < sources) × (p.factor * a ≤ 16320) × (lag_at p i ≤ max_lag) × (source_lag p j ≤ ahead p i a) × (ahead p i a ≤ source_lag p j + max_delay)
feed_fits g p r s i j a e =
    let f = feed_inside g r i j a e in
    (omega (arith, f.0, r.few), f.1, mul-le p.factor a 64 255 s.slow (omega (arith, f.2)), s.lags i, s.low i j a f.0 e, s.high i j a f.0 e)

-- the nodes of the slice are the graph's
pub slice_long : (g : Graph) (nodes : List Node) → InRange g → nodes ≡ take g.count g.nodes → length nodes ≡ g.count
slice_long g nodes r e = ap length e ∙ length-take-le g.count g.nodes (omega (arith, r.few, r.table))

pub slice_at : (g : Graph) (nodes : List Node) (i : ℕ) → nodes ≡ take g.count g.nodes → i < g.count → get_or nodes i absent ≡ node_at g i
slice_at g nodes i e l = ap (λ ns. get_or ns i absent) e ∙ get_or-take g.count g.nodes i absent l
