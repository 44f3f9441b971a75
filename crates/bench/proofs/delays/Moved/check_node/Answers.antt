use Rattle.std.proofs.Common.{ℕ, get_or, None, Option, ap, ◌∙◌, arith}
use Rattle.words.specs.declared.faults.Fault.{Fault}
use Rattle.bench.specs.declared.retiming.Retiming.{Retiming}
use Rattle.bench.specs.Moves.{feed_fault}
use Rattle.bench.proofs.Outcomes.{unless_err, unless_none, refused}
use Rattle.bench.proofs.Searches.{first_start, first_found, first_more}
use Rattle.bench.proofs.delays.Moved.check_node.Goals as goal
use Rattle.bench.proofs.delays.Moved.check_node.Goals.{in-Some+in_ok-check_feed, in_default}

pub loop-source-init : goal.loop-source-init
loop-source-init c = first_start _

pub returns-in_err-check_feed : goal.returns-in_err-check_feed
returns-in_err-check_feed c =
    let p : Retiming = c.args.self.now.retiming in
    let k : ℕ = c.loop-source.source in
    let at : ℕ → Option Fault = λ j. feed_fault p c.args.number j (get_or c.args.node.now.feeds j None) in
    let f : Fault = c.in_err-check_feed.field-0.0 in
    refused c.from_residual.result _ tt f c.from_residual.ensures.1
    (first_found at 33 k f (omega arith) c.loop-source.invariant (ap (feed_fault p c.args.number k) c.in-Some.is ∙ unless_err _ tt f c.in_err-check_feed.ensures))

pub loop-source-preserved : goal.loop-source-preserved
loop-source-preserved c =
    let p : Retiming = c.args.self.now.retiming in
    let k : ℕ = c.loop-source.source in
    let at : ℕ → Option Fault = λ j. feed_fault p c.args.number j (get_or c.args.node.now.feeds j None) in
    first_more at k c.loop-source.invariant
    (elim c.match-feed.branch [
      | in-Some+in_ok-check_feed w ↦ ap (feed_fault p c.args.number k) w.in-Some.is ∙ unless_none _ tt w.in_ok-check_feed.field-0 w.in_ok-check_feed.ensures
      | in_default w ↦ ap (feed_fault p c.args.number k) w.in_default.is
    ])
