use Rattle.std.proofs.Common.{◌≡◌, ◌++◌, drop, sum, take}
use Rattle.machine.specs.Starting.{lines_at_rest}
use Rattle.machine.proofs.machine.Machine.fill.Given as goal

abbrev pub invariant-loop-line : goal.invariant-loop-line
invariant-loop-line g l =
    let lines = l.self.program.table.lines.items in
    l.registers ≡ lines_at_rest (take l.line lines) (take l.line l.rest) ++ drop (sum (take l.line lines)) l.initial.registers
