use Rattle.std.proofs.Common.{replicate, set, sym, ap, ◌∙◌, zero-add, arith}
use Rattle.std.proofs.Math.Seq.{paste}
use Rattle.std.proofs.lemmas.List.Edits.{fill_from_more}
use Rattle.machine.proofs.line.fill.Goals as goal

pub loop-place-preserved : goal.loop-place-preserved
loop-place-preserved g c =
    let d = c.args.line.now in
    let v = c.args.value in
    let i = c.loop-place.place-index in
    ap (λ xs. set xs i v) c.loop-place.invariant ∙ ap (λ k. set (paste d 0 (replicate i v) i) k v) (sym (zero-add i))
    ∙ fill_from_more d 0 i v (omega (arith, c.loop-place-test.true, c.loop-place.auto.line))
