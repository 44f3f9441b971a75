use Rattle.std.proofs.Common.{length, get_or, take, sym, refl, ◌∙◌}
use Rattle.bench.proofs.Searches.{first_start}
use Rattle.machine.specs.Loading.{is_late_tap, tap_fault_in}
use Rattle.machine.specs.Refusals.{late_cell}
use Rattle.machine.proofs.Checking.{refused_at, passed_at}
use Rattle.machine.proofs.checks.check_taps.Goals as goal

pub loop-index-init : goal.loop-index-init
loop-index-init c = record { none = first_start (tap_fault_in c.args.words.now); names = c.none-named.ensures }

pub returns-then-is_late : goal.returns-then-is_late
returns-then-is_late c =
    let words = c.args.words.now in
    let k = c.loop-index.index in
    refused_at (λ i. is_late_tap (take i words) (get_or words i 0)) late_cell (length words) k c.refused.result c.loop-index-test.true c.loop-index.invariant.none
    (sym (c.is_late.ensures (take k words) c.loop-index.invariant.names) ∙ c.if-is_late.true) c.refused.ensures

pub loop-index-preserved : goal.loop-index-preserved
loop-index-preserved c =
    let words = c.args.words.now in
    let k = c.loop-index.index in
    record {
      none =
          passed_at (λ i. is_late_tap (take i words) (get_or words i 0)) late_cell k c.loop-index.invariant.none
          (sym (c.is_late.ensures (take k words) c.loop-index.invariant.names) ∙ c.if-is_late.false);
      names = c.take.ensures words k c.loop-index-test.true refl c.loop-index.invariant.names;
    }
