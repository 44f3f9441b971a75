use Rattle.std.proofs.Common.{◌≡◌, map, take}
use Rattle.cells.specs.Meaning.{gathered}
use Rattle.machine.specs.Reading.{wire_operand}
use Rattle.machine.proofs.step.compute.Given as goal

abbrev pub invariant-loop-wire : goal.invariant-loop-wire
invariant-loop-wire g l =
    let m = g.L.CellLibrary.meaning in
    record {
      same : m l.library ≡ m l.initial.library;
      so_far : (d : g.row.L-Elem.Denot) → l.sum ≡ gathered (m l.initial.library) l.operation (take l.wire-index (map (wire_operand l.input l.registers d) l.wires));
    }
