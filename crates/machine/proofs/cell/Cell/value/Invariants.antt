use Rattle.std.proofs.Common.{◌≡◌, map, take}
use Rattle.cells.specs.Meaning.{gathered}
use Rattle.machine.specs.Values.{operand}
use Rattle.machine.specs.Plans.{taps_in}
use Rattle.machine.specs.Buffers.{heard_in}
use Rattle.machine.proofs.cell.Cell.value.Given as goal

abbrev pub invariant-loop-tap : goal.invariant-loop-tap
invariant-loop-tap g l =
    let m = g.L.CellLibrary.meaning in
    let hear = heard_in l.moment.count l.moment.rest.now l.moment.inputs.now l.history in
    record {
      same : m l.library ≡ m l.initial.library;
      so_far : (d : g.row.L-Elem.Denot) → l.sum ≡ gathered (m l.initial.library) l.self.operation (take l.tap-index (map (operand (hear d l.moment.time)) (taps_in l.self)));
    }
