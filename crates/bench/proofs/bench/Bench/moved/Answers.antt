use Rattle.std.proofs.Common.{ℕ, List, ℤ, Some, sym, refl, ap, ◌∙◌}
use Rattle.words.specs.declared.faults.Fault.{Fault}
use Rattle.words.specs.declared.graph.Graph.{Graph}
use Rattle.words.proofs.Ranges.{ranges}
use Rattle.bench.specs.declared.retiming.Retiming.{Retiming}
use Rattle.bench.specs.Moves.{delays_fault}
use Rattle.bench.proofs.Moved.{lags_table, made_slow, made_lags, made_delays, moved_by}
use Rattle.bench.proofs.Outcomes.{unless_err, unless_none, failed}
use Rattle.bench.proofs.Soundness.{sound}
use Rattle.bench.proofs.bench.Bench.moved.Goals as goal

pub returns-then-slowed-gt-MAX_FACTOR-clause-asked : goal.returns-then-slowed-gt-MAX_FACTOR-clause-asked
returns-then-slowed-gt-MAX_FACTOR-clause-asked c =
    made_slow c.args.self.now.design.graph c.args.self.now.retiming c.args.by.now.factor c.args.by.now.shifts.now c.if-slowed-gt-MAX_FACTOR.true ∙ ap Some (sym c.refused.ensures)

pub returns-in_err-apply-clause-asked : goal.returns-in_err-apply-clause-asked
returns-in_err-apply-clause-asked c =
    let g : Graph = c.args.self.now.design.graph in
    let p : Retiming = c.args.self.now.retiming in
    let factor : ℕ = c.args.by.now.factor in
    let shifts : List ℤ = c.args.by.now.shifts.now in
    let f : Fault = c.in_err-apply.field-0.0 in
    let all = lags_table p factor shifts g (ranges g c.args.self.now.design.sound) (sound g p c.args.self.now.sound) c.requires.few in
    failed c.from_residual.result _ _ f c.from_residual.ensures.1
    (made_lags g p factor shifts c.if-slowed-gt-MAX_FACTOR.false f (sym all ∙ unless_err _ tt f c.in_err-apply.ensures.answer))

pub returns : goal.returns
returns c =
    let g : Graph = c.args.self.now.design.graph in
    let p : Retiming = c.args.self.now.retiming in
    let factor : ℕ = c.args.by.now.factor in
    let shifts : List ℤ = c.args.by.now.shifts.now in
    let s = sound g p c.args.self.now.sound in
    let all = lags_table p factor shifts g (ranges g c.args.self.now.design.sound) s c.requires.few in
    let made = moved_by p factor shifts c.apply.new.records s.table (c.in_ok-apply.ensures.state refl) in
    record {
      made = made;
      asked = made_delays g p factor shifts c.if-slowed-gt-MAX_FACTOR.false (sym all ∙ unless_none _ tt c.in_ok-apply.field-0 c.in_ok-apply.ensures.answer) ∙ ap (delays_fault g) (sym made);
    }
