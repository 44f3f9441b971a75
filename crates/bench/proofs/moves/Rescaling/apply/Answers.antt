use Rattle.std.proofs.Common.{◌<◌, length, refl, ap, ◌∙◌, arith}
use Rattle.words.specs.declared.faults.Fault.{Fault}
use Rattle.bench.specs.Moves.{natural}
use Rattle.bench.proofs.Moving.{lag_of_record, fault_of_record, record_more}
use Rattle.bench.proofs.Outcomes.{unless_err, unless_none, taken, refused}
use Rattle.bench.proofs.Searches.{first_start, first_found, first_more}
use Rattle.bench.proofs.moves.Rescaling.apply.Goals as goal

pub loop-node-init : goal.loop-node-init
loop-node-init c = (refl, first_start _)

pub returns-in_err-retime-clause-answer : goal.returns-in_err-retime-clause-answer
returns-in_err-retime-clause-answer c =
    let f : Fault = c.in_err-retime.field-0.0 in
    let l : c.loop-node.node < length c.args.records.now = omega arith in
    refused c.from_residual.result _ tt f c.from_residual.ensures.1
    (first_found _ (length c.args.records.now) c.loop-node.node f l c.loop-node.invariant.1
    (fault_of_record _ _ _ _ _ l c.loop-node.invariant.0 ∙ unless_err _ tt f c.in_err-retime.ensures.answer))

pub loop-node-preserved : goal.loop-node-preserved
loop-node-preserved c =
    let l : c.loop-node.node < length c.args.records.now = omega arith in
    let none = unless_none _ tt c.in_ok-retime.field-0 c.in_ok-retime.ensures.answer in
    let lag = lag_of_record _ _ _ _ _ l c.loop-node.invariant.0 in (
      record_more _ _ _ _ _ l c.loop-node.invariant.0 c.retime.new.self (c.retime.ensures.state ∙ taken _ _ _ none ∙ ap (λ z. record { lag = natural z }) lag),
      first_more _ c.loop-node.node c.loop-node.invariant.1 (fault_of_record _ _ _ _ _ l c.loop-node.invariant.0 ∙ none),
    )
