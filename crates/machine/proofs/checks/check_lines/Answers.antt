use Rattle.std.proofs.Common.{length, get_or, sym, ◌∙◌}
use Rattle.bench.proofs.Searches.{first_start}
use Rattle.machine.specs.Loading.{is_wrong_line, line_fault_in}
use Rattle.machine.specs.Refusals.{wrong_line}
use Rattle.machine.proofs.Checking.{refused_at, passed_at}
use Rattle.machine.proofs.checks.check_lines.Goals as goal

pub loop-index-init : goal.loop-index-init
loop-index-init c = first_start (line_fault_in c.args.words.now)

pub returns-then-is_wrong_line : goal.returns-then-is_wrong_line
returns-then-is_wrong_line c =
    let words = c.args.words.now in
    refused_at (λ k. is_wrong_line words (get_or words k 0)) wrong_line (length words) c.loop-index.index c.refused.result c.loop-index-test.true c.loop-index.invariant
    (sym c.is_wrong_line.ensures ∙ c.if-is_wrong_line.true) c.refused.ensures

pub loop-index-preserved : goal.loop-index-preserved
loop-index-preserved c =
    let words = c.args.words.now in
    passed_at (λ k. is_wrong_line words (get_or words k 0)) wrong_line c.loop-index.index c.loop-index.invariant (sym c.is_wrong_line.ensures ∙ c.if-is_wrong_line.false)
