use Rattle.std.proofs.Common.{◌<◌, length, refl, arith}
use Rattle.machine.proofs.Shifting.{shift_more, shift_next, shift_all}
use Rattle.machine.proofs.line.shift.Goals as goal

pub loop-place-init : goal.loop-place-init
loop-place-init g c = (refl, refl)

pub loop-place-preserved : goal.loop-place-preserved
loop-place-preserved g c =
    let now = c.loop-place in
    let l : now.place-index < length c.args.line.now = omega (arith, c.loop-place-test.true, now.auto.line) in (
      shift_more c.args.newest c.args.line.now now.place-index now.newest now.line l now.invariant.0 now.invariant.1,
      shift_next c.args.newest c.args.line.now now.place-index now.line _ _ l now.invariant.0,
    )

pub returns : goal.returns
returns g c =
    let now = c.loop-place in
    shift_all c.args.newest c.args.line.now now.place-index now.line (omega (arith, c.loop-place-test.false, now.auto.line, now.auto.place-index-end)) now.invariant.0
