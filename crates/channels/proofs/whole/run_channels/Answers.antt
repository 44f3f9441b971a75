use Rattle.std.proofs.Common.{◌≡◌, ap, min, length, arith}
use Rattle.std.proofs.lemmas.List.{length-take-le}
use Rattle.words.specs.declared.design.Design.{Design}
use Rattle.words.proofs.Ranges.{ranges}
use Rattle.channels.proofs.Done.{never, whole}
use Rattle.channels.proofs.whole.run_channels.Goals as goal

-- load does not refuse what is emitted
pub returns-in_err-machine-clause-whole : goal.returns-in_err-machine-clause-whole
returns-in_err-machine-clause-whole g c =
    absurd
    (never c.args.design.now (ranges c.args.design.now.graph c.args.design.now.sound) c.args.calls.now c.args.cycle.now c.open.new.cycle c.open.result c.in_ok-bench.bench c.open.ensures c.in_ok-bench.was
    c.send.new.self.design.graph c.send.new.self.retiming (ap (λ (d : Design). d.graph) c.send.ensures.design) c.send.ensures.retiming
    c.args.words.now c.emit.new.words c.emit.result c.in_ok-count.count c.emit.ensures.written c.in_ok-count.was
    c.in_err-machine.field-0.0 c.in_err-machine.ensures.loads)

pub returns-clause-whole : goal.returns-clause-whole
returns-clause-whole g c =
    let few : c.min-turns.result ≡ min (length c.args.events.now) (length c.args.answers.now) = c.min-turns.ensures in
    whole c.args.design.now (ranges c.args.design.now.graph c.args.design.now.sound) c.args.calls.now c.args.cycle.now c.open.new.cycle c.open.result c.in_ok-bench.bench c.open.ensures c.in_ok-bench.was
    c.send.new.self.design.graph c.send.new.self.retiming (ap (λ (d : Design). d.graph) c.send.ensures.design) c.send.ensures.retiming
    c.args.words.now c.emit.new.words c.emit.result c.in_ok-count.count c.emit.ensures.written c.in_ok-count.was
    (g.L.CellLibrary.meaning c.args.library.now) c.args.events.now c.args.registers.now c.run.new.registers c.args.answers.now c.run.new.answers c.timing-timing.result c.timing-timing.ensures
    c.load.result c.in_ok-machine.machine c.load.ensures.loads c.in_ok-machine.was
    c.min-turns.result c.run.new.machine.cycle few (omega (arith, c.run.auto.answers, few, length-take-le c.min-turns.result c.args.answers.now (omega (arith, few)))) c.run.ensures.ran
