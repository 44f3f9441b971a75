use Rattle.std.proofs.Common.{◌≡◌, length}
use Rattle.machine.specs.Fired.{CellsFired}
use Rattle.machine.proofs.machine.Machine.fire.Given as goal

abbrev pub invariant-loop-cell : goal.invariant-loop-cell
invariant-loop-cell g l =
    let m = g.L.CellLibrary.meaning in
    record {
      same : m l.library ≡ m l.initial.library;
      long : length l.registers ≡ length l.initial.registers;
      fired : (d : g.row.L-Elem.Denot) → CellsFired l.self.program.table (m l.initial.library) l.self.cycle l.input d l.initial.registers l.registers l.cell-index;
    }
