use Rattle.std.proofs.Common.{ℕ, ◌<◌, take, set, length, refl, ap, ◌∙◌, subst, add-one, arith}
use Rattle.std.proofs.Math.Seq.{take-suc-set}
use Rattle.std.proofs.lemmas.List.{take_all}
use Rattle.cells.specs.Meaning.{Meaning}
use Rattle.words.specs.declared.program.Program.{Program}
use Rattle.channels.specs.Events.{Happens, Ran, state}
use Rattle.channels.proofs.Runs.{ran_none, ran_more}
use Rattle.channels.proofs.whole.run.Goals as goal

pub loop-place-init : goal.loop-place-init
loop-place-init g c =
    record {
      program = refl;
      same = refl;
      ran = ran_none c.args.machine.now.program.table (g.L.CellLibrary.meaning c.args.library.now) (state c.args.machine.now.cycle c.args.registers.now);
    }

pub loop-place-preserved : goal.loop-place-preserved
loop-place-preserved g c =
    let m = g.L.CellLibrary.meaning in
    let t = c.args.machine.now.program.table in
    let inv = c.loop-place.invariant in
    let k : ℕ = c.loop-place.place in
    let d = c.index-events-place.result in
    let mid = state c.loop-place.machine.cycle c.loop-place.registers in
    let next = state c.make.new.machine.cycle c.make.new.registers in
    let inside : k < length c.loop-place.answers = omega (arith, c.loop-place-test.true, c.loop-place.auto.answers) in
    let now =
    subst (λ e. Happens t (m c.args.library.now) e mid c.make.result next) c.index-events-place.is
    (subst (λ (q : Meaning g.row.L-Elem.Denot g.row.L-Acc.Denot). Happens t q d mid c.make.result next) inv.same
    (subst (λ (p : Program). Happens p.table (m c.loop-place.library) d mid c.make.result next) inv.program c.make.ensures.happens)) in
    record {
      program = c.make.ensures.program ∙ inv.program;
      same = c.make.ensures.same ∙ inv.same;
      ran =
          ran_more t (m c.args.library.now) c.args.events.now c.loop-place.answers (set c.loop-place.answers k c.make.result) (state c.args.machine.now.cycle c.args.registers.now) mid next k d c.make.result
          (omega (arith, c.loop-place-test.true, c.requires)) inv.ran now
          (ap (λ n. take n (set c.loop-place.answers k c.make.result)) (add-one k) ∙ take-suc-set c.loop-place.answers k c.make.result inside);
    }

pub returns-clause-ran : goal.returns-clause-ran
returns-clause-ran g c =
    let k : ℕ = c.loop-place.place in
    let t = c.args.machine.now.program.table in
    let m = g.L.CellLibrary.meaning c.args.library.now in
    let first = state c.args.machine.now.cycle c.args.registers.now in
    let last = state c.loop-place.machine.cycle c.loop-place.registers in
    subst (λ answers. Ran t m first c.args.events.now answers last) (take_all k c.loop-place.answers (omega (arith, c.loop-place-test.false, c.loop-place.auto.answers)))
    (subst (λ events. Ran t m first events (take k c.loop-place.answers) last) (take_all k c.args.events.now (omega (arith, c.loop-place-test.false, c.requires))) c.loop-place.invariant.ran)

pub returns-clause-same : goal.returns-clause-same
returns-clause-same g c = c.loop-place.invariant.same
