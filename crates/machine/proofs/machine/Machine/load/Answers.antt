use Rattle.std.proofs.Common.{◌≡◌, None, ap, ◌∙◌}
use Rattle.words.specs.ProgramEncoding.{encoded_program}
use Rattle.words.proofs.ProgramRanges.{program_ranges}
use Rattle.bench.proofs.Outcomes.{unless_none}
use Rattle.machine.specs.Loading.{tap_fault, line_fault}
use Rattle.machine.proofs.Loaded.{ordered, reached}
use Rattle.machine.proofs.machine.Machine.load.Goals as goal

pub invariant_of-result : goal.invariant_of-result
invariant_of-result c =
    let p = c.in_ok-program.program.table in
    let words = c.args.words.now in
    let range = program_ranges p c.in_ok-program.program.in_range in
    let is : encoded_program p ≡ words = c.in_ok-program.ensures.reads.1 in
    let taps : tap_fault words ≡ None = unless_none _ tt c.in_ok-check_taps.field-0 c.in_ok-check_taps.ensures in
    let lines : line_fault words ≡ None = unless_none _ tt c.in_ok-check_lines.field-0 c.in_ok-check_lines.ensures in
    record {
      wired = c.of-wiring.ensures;
      ordered = ∣ ordered p range (ap tap_fault is ∙ taps) ∣₁;
      reached = ∣ reached p range (ap line_fault is ∙ lines) ∣₁;
    }
