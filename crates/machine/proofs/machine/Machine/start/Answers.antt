use Rattle.std.proofs.Common.{◌+◌, length, drop, List, sym, subst, arith}
use Rattle.words.proofs.ProgramRanges.{program_ranges}
use Rattle.machine.specs.Arrays.{array_in}
use Rattle.machine.specs.Buffers.{rest_in}
use Rattle.machine.specs.Starting.{registers_at_rest}
use Rattle.machine.specs.Steps.{AtRest, registers_in}
use Rattle.machine.proofs.Resting.{at_rest}
use Rattle.machine.proofs.machine.Machine.start.Goals as goal

pub returns-clause-rest : goal.returns-clause-rest
returns-clause-rest g c d =
    let p = c.args.self.now.program.table in
    let rest = c.args.rest.now in
    let past = drop (0 + length (registers_at_rest p rest)) c.args.registers.now in
    subst (λ (row : List g.row.E.Denot). AtRest (array_in p) p.lines.items (rest_in p.count rest d) (registers_in p.count p.lines.items row d)) (sym c.fill.ensures)
    (at_rest p (program_ranges p c.args.self.now.program.in_range) rest past (omega (arith, c.in_ok-ask_lengths.ensures.rest, c.count.ensures)) d)
