-- What is worked out of a program once, when it is loaded: the register of each value that is read or written.
use Rattle.std.specs.Prelude.{ℕ, suc, zero, ◌+◌, cond, ◌&&◌, List, map, length, Some, None, Option, ◌==◌, slice_index_or, sum, take}
use Rattle.std.specs.List.{flat_map, range_with_len}
use Rattle.words.specs.declared.program_table.Tap.{Tap}
use Rattle.words.specs.declared.program_table.Cell.{Cell}
use Rattle.words.specs.declared.program_table.ProgramTable.{ProgramTable}
use Rattle.words.specs.Designs.{input}
use Rattle.words.specs.ProgramDrafts.{no_cell}
use Rattle.machine.specs.declared.wiring.Wire.{Wire}
use Rattle.machine.specs.declared.wiring.WiredCell.{WiredCell}
use Rattle.machine.specs.declared.wiring.Wiring.{Wiring}
use Rattle.machine.specs.Steps.{line_place, present_place}

-- where each line begins, and after the last line the present values
abbrev pub line_starts : List ℕ → List ℕ
line_starts lines = map (λ k. sum (take k lines)) (range_with_len 0 (length lines + 1))

-- the register that is read of source j at a delay: at 0 its present value, at p place p − 1 of its line
abbrev pub register_at : ℕ → List ℕ → ℕ → ℕ → ℕ
register_at n lines j zero = present_place lines j
register_at n lines j (suc p) = line_place n lines j p

-- a tap of delay 0 from the input reads no register
abbrev pub tap_register : ℕ → List ℕ → Tap → Option ℕ
tap_register n lines tap = cond (tap.delay == 0 && tap.source == input) None (Some (register_at n lines tap.source tap.delay))

abbrev pub wire_of : ℕ → List ℕ → Tap → Wire
wire_of n lines tap = record { source = tap.source; register = tap_register n lines tap }

-- the taps of some cells, in one row
abbrev pub wires_of : ℕ → List ℕ → List Cell → List Wire
wires_of n lines cells = flat_map (λ c. map (wire_of n lines) c.taps.items) cells

-- cell k of a list of cells
abbrev pub wired_cell : ℕ → List ℕ → List Cell → ℕ → WiredCell
wired_cell n lines cells k =
    let c = slice_index_or cells k no_cell in
    record {
      present = present_place lines c.node;
      operation = c.operation;
      lag = c.lag;
      first = length (wires_of n lines (take k cells));
      end = length (wires_of n lines (take (k + 1) cells));
    }

-- the cells of a list, in order
abbrev pub wired_cells : ℕ → List ℕ → List Cell → List WiredCell
wired_cells n lines cells = map (wired_cell n lines cells) (range_with_len 0 (length cells))

unfoldable pub wiring_of : ProgramTable → Wiring
wiring_of p =
    record {
      starts = record { items = line_starts p.lines.items };
      cells = record { items = wired_cells p.count p.lines.items p.cells.items };
      wires = record { items = wires_of p.count p.lines.items p.cells.items };
      output = register_at p.count p.lines.items p.output.source p.output.delay;
    }
