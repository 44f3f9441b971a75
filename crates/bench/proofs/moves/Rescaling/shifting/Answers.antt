use Rattle.std.proofs.Common.{Some, sym, ap, ◌∙◌}
use Rattle.bench.proofs.Moved.{shifts_some, shifts_fit, shifts_none}
use Rattle.bench.proofs.moves.Rescaling.shifting.Goals as goal

pub returns-in-Some-clause-asked : goal.returns-in-Some-clause-asked
returns-in-Some-clause-asked c = shifts_some c.args.shifts.now c.in-Some.index (sym c.in-Some.is ∙ c.wrong_shift.ensures) ∙ ap Some (sym c.refused.ensures)

pub invariant_of-result-clause-fits : goal.invariant_of-result-clause-fits
invariant_of-result-clause-fits c = shifts_fit c.args.shifts.now (sym c.in_default.is ∙ c.wrong_shift.ensures)

pub returns-clause-asked : goal.returns-clause-asked
returns-clause-asked c = shifts_none c.args.shifts.now (shifts_fit c.args.shifts.now (sym c.in_default.is ∙ c.wrong_shift.ensures))
