use Rattle.std.proofs.Common.{None, sym, refl, subst}
use Rattle.words.proofs.ProgramRanges.{program_ranges}
use Rattle.machine.proofs.Started.{start_answers}
use Rattle.channels.specs.Events.{Happens, state}
use Rattle.channels.proofs.whole.make.Goals as goal

-- a start
pub returns-in-Start-clause-happens : goal.returns-in-Start-clause-happens
returns-in-Start-clause-happens g c =
    let t = c.args.machine.now.program.table in
    let starts =
    start_answers t (program_ranges t c.args.machine.now.program.in_range) c.in-Start.rest.now c.args.registers.now c.start.new.registers c.args.machine.now.cycle c.start.new.self.cycle c.start.result
    c.start.ensures.answer c.start.ensures.registers c.start.ensures.cycle in
    subst
    (λ e. Happens t (g.L.CellLibrary.meaning c.args.library.now) e (state c.args.machine.now.cycle c.args.registers.now) None (state c.start.new.self.cycle c.start.new.registers))
    (sym c.in-Start.is) (c.start.result, starts, refl)
