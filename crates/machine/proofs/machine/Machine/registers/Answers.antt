use Rattle.std.proofs.Common.{◌+◌, sum, ap, arith}
use Rattle.std.proofs.lemmas.List.{take_all}
use Rattle.words.proofs.ProgramRanges.{program_ranges}
use Rattle.machine.proofs.machine.Machine.registers.Goals as goal

pub overflow_add-result : goal.overflow_add-result
overflow_add-result c =
    let range = program_ranges c.args.self.now.program.table c.args.self.now.program.in_range in
    omega (arith, c.line_start.ensures.fits, c.count-count.ensures, range.few)

pub returns : goal.returns
returns c =
    let p = c.args.self.now.program.table in
    let range = program_ranges p c.args.self.now.program.in_range in
    let all = ap sum (take_all (c.count-count.result + 1) p.lines.items (omega (arith, range.lines, c.count-count.ensures))) in
    omega (arith, c.line_start.ensures.start, c.count-count.ensures)
