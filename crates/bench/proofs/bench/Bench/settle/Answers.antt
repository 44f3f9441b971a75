use Rattle.std.proofs.Common.{◌≡◌, ℕ, ◌-◌, ◌≤◌, List, get_or, take, pos, is_ok, Some, None, Ok, Option, sym, ap, ◌∙◌, subst, ap₂, arith}
use Rattle.std.proofs.lemmas.Bool.{false≢true}
use Rattle.words.specs.declared.design.Design.{Design}
use Rattle.words.specs.declared.faults.Fault.{Fault}
use Rattle.words.specs.declared.graph.Graph.{Graph}
use Rattle.words.specs.Designs.{max_nodes}
use Rattle.words.proofs.Ranges.{ranges}
use Rattle.bench.specs.declared.retiming.Retiming.{Retiming}
use Rattle.bench.specs.Moves.{moved, is_shift, made_fault, settle_fault, ranks}
use Rattle.bench.specs.Refusals.{unless, unless_kept}
use Rattle.bench.specs.Orders.{Fires}
use Rattle.bench.specs.Retimings.{Sound, order}
use Rattle.bench.specs.Verdicts.{C1Holds, C2Holds}
use Rattle.bench.proofs.Complete.{fires_order}
use Rattle.bench.proofs.Settled.{settled_c1, settled_c2}
use Rattle.bench.proofs.Soundness.{sound}
use Rattle.bench.proofs.Settling.{ranks_row, ranks_fit}
use Rattle.bench.proofs.bench.Bench.settle.Goals as goal

-- an accepted settle leaves the settled retiming
module _ (g : Graph) (few : g.count ≤ max_nodes) (p : Retiming) (s : Sound g p) (fires : Fires g p (order g p)) where
  accepted : (q : Retiming) → Sound g q → unless (settle_fault g p) (tt {0}) ≡ Ok (tt {0}) → q ≡ unless_kept (settle_fault g p) (moved p g.count (ranks g p)) p → C1Holds g q × C2Holds g q
  accepted q sq ok e = by (settle_fault g p) ok e
    where
      by : (o : Option Fault) → unless o (tt {0}) ≡ Ok (tt {0}) → q ≡ unless_kept o (moved p g.count (ranks g p)) p → C1Holds g q × C2Holds g q
      by None ok e =
          let sm = subst (λ m. Sound g m) e sq in
          (subst (λ m. C1Holds g m) (sym e) (settled_c1 g few p s fires sm), subst (λ m. C2Holds g m) (sym e) (settled_c2 g few p s fires sm))
      by (Some f) ok e = absurd (false≢true (ap is_ok ok))

pub ranks_by_node-ranks-requires : goal.ranks_by_node-ranks-requires
ranks_by_node-ranks-requires c =
    let fires = c.order.ensures.fires in
    record { few = omega (arith, fires.whole, (ranges c.args.self.now.design.graph c.args.self.now.design.sound).few); whole = λ i l. fires.every i (omega (arith, fires.whole)) }

-- this stands before what `rescale` asks, so that the check names another row of shifts first by what is promised of it
pub returns : goal.returns
unfolding settle_fault
returns c =
    let g : Graph = c.args.self.now.design.graph in
    let p : Retiming = c.args.self.now.retiming in
    let row' =
    ranks_row g (ranges g c.args.self.now.design.sound).few p c.order.result c.order.ensures.listed c.order.ensures.fires
    c.ranks_by_node-ranks.result c.count-count.result c.count-count.ensures c.ranks_by_node-ranks.ensures.ranks in
    let few = (ranges g c.args.self.now.design.sound).few in
    let s = sound g p c.args.self.now.sound in
    let answer = c.rescale.ensures.answer ∙ ap₂ (λ n l. unless (made_fault g p n l) tt) c.count-count.ensures row' in
    let retiming = c.rescale.ensures.retiming ∙ ap₂ (λ n l. unless_kept (made_fault g p n l) (moved p n l) p) c.count-count.ensures row' in
    let end = subst (λ (d : Design). Sound d.graph c.rescale.new.self.retiming) c.rescale.ensures.design (sound _ _ c.rescale.new.self.sound) in
    record {
      answer = answer;
      design = c.rescale.ensures.design;
      retiming = retiming;
      systolic = λ ok. accepted g few p s (fires_order g few p s c.args.self.now.ordered) c.rescale.new.self.retiming end (sym answer ∙ ok) retiming;
    }

pub invariant_of-rescale : goal.invariant_of-rescale
invariant_of-rescale c =
    let g : Graph = c.args.self.now.design.graph in
    let p : Retiming = c.args.self.now.retiming in
    let r = ranges g c.args.self.now.design.sound in
    let o : List ℕ = c.order.result in
    let row : take (c.count-count.result - 0) c.ranks_by_node-ranks.result ≡ ranks g p =
    ranks_row g r.few p o c.order.ensures.listed c.order.ensures.fires
    c.ranks_by_node-ranks.result c.count-count.result c.count-count.ensures c.ranks_by_node-ranks.ensures.ranks in
    record {
      positive = omega (arith, r.some, c.count-count.ensures);
      slow = omega (arith, r.few, c.count-count.ensures);
      fits = λ i. ap (λ l. is_shift (get_or l i (pos 0))) row ∙ ranks_fit g r.few p o c.order.ensures.listed c.order.ensures.fires i;
    }
