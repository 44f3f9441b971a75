use Rattle.std.proofs.Common.{List, length, ℤ, Err, sym, refl, ap, ◌∙◌, ap₂, arith}
use Rattle.words.specs.declared.faults.Fault.{Fault}
use Rattle.words.specs.declared.graph.Graph.{Graph}
use Rattle.bench.specs.declared.retiming.Retiming.{Retiming}
use Rattle.bench.specs.Moves.{moved, made_fault}
use Rattle.bench.specs.Refusals.{unless, unless_kept, wrong_row}
use Rattle.bench.proofs.Outcomes.{kept, refused}
use Rattle.bench.proofs.Soundness.{sound}
use Rattle.bench.proofs.Moved.{lag_row, lag_shifts, lag_made}
use Rattle.bench.proofs.bench.Bench.lag.Goals as goal

pub returns-then-shifts-count : goal.returns-then-shifts-count
returns-then-shifts-count c =
    let h =
    lag_row c.args.self.now.design.graph c.args.self.now.retiming c.args.shifts.now (λ e. omega (arith, e, c.if-shifts-count.true, c.count-count.ensures)) in
    record {
      answer = ap Err (c.refused.ensures ∙ ap (wrong_row (length c.args.shifts.now)) c.count-count.ensures) ∙ sym (ap (λ o. unless o tt) h);
      design = refl;
      retiming = kept _ _ _ c.args.self.now.retiming h;
    }

pub returns-in_err-shifting : goal.returns-in_err-shifting
returns-in_err-shifting c =
    let p : Retiming = c.args.self.now.retiming in
    let f : Fault = c.in_err-shifting.field-0.0 in
    let h = lag_shifts c.args.self.now.design.graph p c.args.shifts.now (omega (arith, c.if-shifts-count.false, c.count-count.ensures)) f c.in_err-shifting.ensures.asked in
    record { answer = refused c.from_residual.result _ tt f c.from_residual.ensures.1 h; design = refl; retiming = kept _ f _ p h }

pub returns : goal.returns
returns c =
    let g : Graph = c.args.self.now.design.graph in
    let p : Retiming = c.args.self.now.retiming in
    let shifts : List ℤ = c.args.shifts.now in
    let by = c.in_ok-shifting.ensures.made in
    let h = lag_made g p shifts (omega (arith, c.if-shifts-count.false, c.count-count.ensures)) c.in_ok-shifting.ensures.asked (sound g p c.args.self.now.sound).slow in
    let same = ap₂ (λ n l. made_fault g p n l) by.0 by.1 ∙ sym h in
    record {
      answer = c.rescale.ensures.answer ∙ ap (λ o. unless o tt) same;
      design = c.rescale.ensures.design;
      retiming = c.rescale.ensures.retiming ∙ ap₂ (λ o q. unless_kept o q p) same (ap₂ (λ n l. moved p n l) by.0 by.1);
    }
