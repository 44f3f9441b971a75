use Rattle.std.proofs.Common.{◌≡◌, ℕ, ◌+◌, ◌<◌, ◌≤◌, List, map, length, get_or, set, sym, refl, ap, ◌∙◌, subst, arith, rules}
use Rattle.std.specs.List.{All, slice_range}
use Rattle.std.proofs.lemmas.List.{length-set}
use Rattle.words.proofs.ProgramRanges.{program_ranges}
use Rattle.words.specs.declared.program_table.Cell.{Cell}
use Rattle.words.specs.declared.program_table.ProgramTable.{ProgramTable}
use Rattle.words.specs.ProgramTables.{ProgramInRange}
use Rattle.words.specs.ProgramDrafts.{no_cell}
use Rattle.machine.specs.declared.wiring.Wire.{Wire}
use Rattle.machine.specs.declared.wiring.WiredCell.{WiredCell}
use Rattle.cells.specs.Meaning.{applied}
use Rattle.machine.specs.Arrays.{array_in, rank_in}
use Rattle.machine.specs.Fired.{CellsFired}
use Rattle.machine.specs.Reading.{WireInRow, wire_operand}
use Rattle.machine.specs.Steps.{Reached, line_long, needed, present_place}
use Rattle.machine.specs.Wirings.{wire_of, wired_cell, wiring_of}
use Rattle.machine.proofs.CellsFiring.{cells_none, cell_held, cell_fired}
use Rattle.machine.proofs.CellWires.{cell_wired, first_end, wires_low, wires_are, wires_in_row, cells_count}
use Rattle.machine.proofs.Loaded.{rank_at}
use Rattle.machine.proofs.Machined.{in_order, in_reach}
use Rattle.machine.proofs.machine.Machine.fire.Goals.{then-self-from, else-self-from}
use Rattle.machine.proofs.machine.Machine.fire.Goals as goal

-- a blank, never met
abbrev blank : WiredCell
blank = record { present = 0; operation = 0; lag = 0; first = 0; end = 0 }

-- cell k of a row that is a wiring's
module _ (t : ProgramTable) (range : ProgramInRange t) (items : List WiredCell) (k : ℕ) (is : items ≡ (wiring_of t).cells.items) (below : k < length items) where
  low : k < t.count
  low = omega (arith, ap length is, cells_count t range)

  abbrev cell : Cell
  cell = get_or t.cells.items k no_cell

  cell_is : get_or items k blank ≡ wired_cell t.count t.lines.items t.cells.items k
  cell_is = ap (λ xs. get_or xs k blank) is ∙ cell_wired t range k low blank

  node_low : cell.node < t.count
  node_low = (range.ranges k no_cell (omega (arith, low, range.cells))).node

  present_low : (long : ℕ) → needed t.count t.lines.items ≤ long → (get_or items k blank).present < long
  present_low long room = omega (arith, ap (λ (c : WiredCell). c.present) cell_is, node_low, room)

  ends : (get_or items k blank).first ≤ (get_or items k blank).end
  ends = omega (arith, ap (λ (c : WiredCell). c.first) cell_is, ap (λ (c : WiredCell). c.end) cell_is, first_end t range k low)

  module _ (ws : List Wire) (wires : ws ≡ (wiring_of t).wires.items) where
    end_low : (get_or items k blank).end ≤ length ws
    end_low = omega (arith, ap (λ (c : WiredCell). c.end) cell_is, ap length wires, wires_low t range k low)

    slice : slice_range ws (get_or items k blank).first (get_or items k blank).end ≡ map (wire_of t.count t.lines.items) cell.taps.items
    slice = wires_are t range k low ws (get_or items k blank).first (get_or items k blank).end wires (ap (λ (c : WiredCell). c.first) cell_is) (ap (λ (c : WiredCell). c.end) cell_is)

    in_row : Reached (array_in t) t.lines.items → (long : ℕ) → needed t.count t.lines.items ≤ long → All (WireInRow long) (slice_range ws (get_or items k blank).first (get_or items k blank).end)
    in_row reached long room =
        subst (All (WireInRow long)) (sym slice)
        (wires_in_row t range k low long room
        (subst (λ c. All (λ tap. tap.delay ≤ line_long t.count t.lines.items tap.source) c.taps.items) (ap (λ r. get_or t.cells.items r no_cell) (rank_at t range k low)) (reached.taps cell.node node_low)))

pub loop-cell-init : goal.loop-cell-init
loop-cell-init g c =
    record { same = refl; long = refl; fired = λ d. cells_none c.args.self.now.program.table (g.L.CellLibrary.meaning c.args.library.now) c.args.self.now.cycle c.args.input d c.args.registers.now }

pub offset_bounds-deref-cell : goal.offset_bounds-deref-cell
offset_bounds-deref-cell g c =
    let m = c.args.self.now in
    let t = m.program.table in
    let range = program_ranges t m.program.in_range in
    let items = c.deref-cell-items.result.now in
    let k = c.loop-cell.cell-index in
    let is : items ≡ (wiring_of t).cells.items = c.deref-cell-items.ensures.0 ∙ ap (λ w. w.cells.items) m.wired in
    let below : (get_or items k blank).first ≤ length c.deref.result.now = omega (arith, ends t range items k is c.loop-cell-test.true, end_low t range items k is c.loop-cell-test.true c.deref.result.now (c.deref.ensures.0 ∙ ap (λ w. w.wires.items) m.wired)) in
    search rules

pub slice_bounds-wires-count : goal.slice_bounds-wires-count
slice_bounds-wires-count g c =
    let m = c.args.self.now in
    ends m.program.table (program_ranges m.program.table m.program.in_range) c.deref-cell-items.result.now c.loop-cell.cell-index (c.deref-cell-items.ensures.0 ∙ ap (λ w. w.cells.items) m.wired) c.loop-cell-test.true

pub slice_bounds-wires-start : goal.slice_bounds-wires-start
slice_bounds-wires-start g c =
    let m = c.args.self.now in
    let t = m.program.table in
    let range = program_ranges t m.program.in_range in
    let items = c.deref-cell-items.result.now in
    let k = c.loop-cell.cell-index in
    let is : items ≡ (wiring_of t).cells.items = c.deref-cell-items.ensures.0 ∙ ap (λ w. w.cells.items) m.wired in
    let order : (get_or items k blank).first ≤ (get_or items k blank).end = ends t range items k is c.loop-cell-test.true in
    let inside : (get_or items k blank).end ≤ length c.deref.result.now = end_low t range items k is c.loop-cell-test.true c.deref.result.now (c.deref.ensures.0 ∙ ap (λ w. w.wires.items) m.wired) in
    search rules

pub slice_bounds-wires-end : goal.slice_bounds-wires-end
slice_bounds-wires-end g c =
    let m = c.args.self.now in
    let t = m.program.table in
    let range = program_ranges t m.program.in_range in
    let items = c.deref-cell-items.result.now in
    let k = c.loop-cell.cell-index in
    let is : items ≡ (wiring_of t).cells.items = c.deref-cell-items.ensures.0 ∙ ap (λ w. w.cells.items) m.wired in
    let order : (get_or items k blank).first ≤ (get_or items k blank).end = ends t range items k is c.loop-cell-test.true in
    let inside : (get_or items k blank).end ≤ length c.deref.result.now = end_low t range items k is c.loop-cell-test.true c.deref.result.now (c.deref.ensures.0 ∙ ap (λ w. w.wires.items) m.wired) in
    search rules

pub compute-value-requires : goal.compute-value-requires
compute-value-requires g c =
    let m = c.args.self.now in
    in_row m.program.table (program_ranges m.program.table m.program.in_range) c.deref-cell-items.result.now c.loop-cell.cell-index (c.deref-cell-items.ensures.0 ∙ ap (λ w. w.cells.items) m.wired) c.loop-cell-test.true
    c.deref.result.now (c.deref.ensures.0 ∙ ap (λ w. w.wires.items) m.wired) (in_reach (array_in m.program.table) m.program.table.lines.items m.reached) (length c.loop-cell.registers) (omega (arith, c.requires.room, c.loop-cell.invariant.long))

pub offset_bounds-registers-cell : goal.offset_bounds-registers-cell
offset_bounds-registers-cell g c =
    let m = c.args.self.now in
    let t = m.program.table in
    let range = program_ranges t m.program.in_range in
    let items = c.deref-cell-items.result.now in
    let k = c.loop-cell.cell-index in
    let is : items ≡ (wiring_of t).cells.items = c.deref-cell-items.ensures.0 ∙ ap (λ w. w.cells.items) m.wired in
    let below : (get_or items k blank).present < length c.loop-cell.registers = present_low t range items k is c.loop-cell-test.true (length c.loop-cell.registers) (omega (arith, c.requires.room, c.loop-cell.invariant.long)) in
    search rules

pub bounds-registers-cell : goal.bounds-registers-cell
bounds-registers-cell g c =
    let m = c.args.self.now in
    present_low m.program.table (program_ranges m.program.table m.program.in_range) c.deref-cell-items.result.now c.loop-cell.cell-index (c.deref-cell-items.ensures.0 ∙ ap (λ w. w.cells.items) m.wired) c.loop-cell-test.true
    (length c.loop-cell.registers) (omega (arith, c.requires.room, c.loop-cell.invariant.long))

pub loop-cell-preserved : goal.loop-cell-preserved
loop-cell-preserved g c =
    let m = c.args.self.now in
    let t = m.program.table in
    let range = program_ranges t m.program.in_range in
    let items = c.deref-cell-items.result.now in
    let k = c.loop-cell.cell-index in
    let is : items ≡ (wiring_of t).cells.items = c.deref-cell-items.ensures.0 ∙ ap (λ w. w.cells.items) m.wired in
    let x = c.args.input in
    let before = c.args.registers.now in
    let now = c.loop-cell.registers in
    let meaning = g.L.CellLibrary.meaning c.args.library.now in
    let few = low t range items k is c.loop-cell-test.true in
    let at = cell_is t range items k is c.loop-cell-test.true in
    let lag : c.from.result ≡ (get_or t.cells.items k no_cell).lag = c.from.ensures ∙ ap (λ (w : WiredCell). w.lag) at in
    elim c.if-self-from.branch [
      | then-self-from w ↦
          let v = w.compute-value.result in
          let wires : w.deref.result.now ≡ (wiring_of t).wires.items = w.deref.ensures.0 ∙ ap (λ wiring. wiring.wires.items) m.wired in
          let after : c.if-self-from.registers ≡ set now (present_place t.lines.items (get_or t.cells.items k no_cell).node) v = w.registers-is ∙ ap (λ (c : WiredCell). set now c.present v) at in
          record {
            same = ap g.L.CellLibrary.meaning w.library-is ∙ w.compute-value.ensures.same ∙ c.loop-cell.invariant.same;
            long = ap length after ∙ length-set now (present_place t.lines.items (get_or t.cells.items k no_cell).node) v ∙ c.loop-cell.invariant.long;
            fired = λ d.
                let value : v ≡ applied meaning (get_or t.cells.items k no_cell).operation (map (wire_operand x now d) (map (wire_of t.count t.lines.items) (get_or t.cells.items k no_cell).taps.items)) =
                w.compute-value.ensures.value d
                ∙ ap (λ q. applied q (get_or items k blank).operation (map (wire_operand x now d) (slice_range w.deref.result.now (get_or items k blank).first (get_or items k blank).end))) c.loop-cell.invariant.same
                ∙ ap (λ (c : WiredCell). applied meaning c.operation (map (wire_operand x now d) (slice_range w.deref.result.now (get_or items k blank).first (get_or items k blank).end))) at
                ∙ ap (λ ws. applied meaning (get_or t.cells.items k no_cell).operation (map (wire_operand x now d) ws)) (slice t range items k is c.loop-cell-test.true w.deref.result.now wires) in
                subst (λ row. CellsFired t meaning m.cycle x d before row (k + 1)) (sym after)
                (cell_fired t range (in_order (array_in t) (rank_in t) m.ordered) (in_reach (array_in t) t.lines.items m.reached) meaning m.cycle x d before now k few (c.loop-cell.invariant.fired d) v
                (omega (arith, c.requires.room, c.loop-cell.invariant.long)) value (omega (arith, lag, w.if-self-from.true)));
          }
      | else-self-from w ↦
          record {
            same = ap g.L.CellLibrary.meaning w.library-is ∙ c.loop-cell.invariant.same;
            long = ap length w.registers-is ∙ c.loop-cell.invariant.long;
            fired = λ d.
                subst (λ row. CellsFired t meaning m.cycle x d before row (k + 1)) (sym w.registers-is)
                (cell_held t range (in_order (array_in t) (rank_in t) m.ordered) (in_reach (array_in t) t.lines.items m.reached) meaning m.cycle x d before now k few (c.loop-cell.invariant.fired d)
                (omega (arith, lag, w.if-self-from.false)));
          }
    ]

pub returns : goal.returns
returns g c =
    let m = c.args.self.now in
    let range = program_ranges m.program.table m.program.in_range in
    let all : c.loop-cell.cell-index ≡ m.program.table.count =
    omega (arith, c.loop-cell-test.false, c.loop-cell.auto.cell-index-end, ap length (c.deref-cell-items.ensures.0 ∙ ap (λ w. w.cells.items) m.wired), cells_count m.program.table range) in
    record {
      long = c.loop-cell.invariant.long;
      fired = λ d. subst (CellsFired m.program.table (g.L.CellLibrary.meaning c.args.library.now) m.cycle c.args.input d c.args.registers.now c.loop-cell.registers) all (c.loop-cell.invariant.fired d);
      same = c.loop-cell.invariant.same;
    }
