use Rattle.std.proofs.Common.{◌≡◌, length}
use Rattle.machine.specs.Moving.{LinesMoved}
use Rattle.machine.proofs.machine.Machine.move_lines.Given as goal

abbrev pub invariant-loop-line : goal.invariant-loop-line
invariant-loop-line g l =
    let t = l.self.program.table in
    (length l.registers ≡ length l.initial.registers) × ((d : g.row.E.Denot) → LinesMoved t.count t.lines.items l.input d l.initial.registers l.registers l.line)
