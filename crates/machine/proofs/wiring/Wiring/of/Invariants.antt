use Rattle.std.proofs.Common.{◌≡◌, map, take}
use Rattle.std.specs.List.{range_with_len}
use Rattle.machine.specs.Wirings.{wires_of, wired_cell}
use Rattle.machine.proofs.wiring.Wiring.of.Given as goal

abbrev pub invariant-loop-cell : goal.invariant-loop-cell
invariant-loop-cell l =
    let p = l.program.table in
    record {
      cells : l.cells.items ≡ map (wired_cell p.count p.lines.items p.cells.items) (range_with_len 0 l.cell-index);
      wires : l.wires.items ≡ wires_of p.count p.lines.items (take l.cell-index p.cells.items);
    }
