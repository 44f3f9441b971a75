use Rattle.std.proofs.Common.{◌≡◌, ◌+◌, ◌<◌, ◌≤◌, ◌++◌, List, map, length, get_or, take, sym, ap, ◌∙◌, arith}
use Rattle.std.specs.List.{range_with_len}
use Rattle.std.proofs.lemmas.List.{take_all}
use Rattle.std.proofs.lemmas.List.FromFn.{length-map-range_with_len}
use Rattle.words.specs.declared.program_table.Cell.{Cell}
use Rattle.words.specs.declared.program_table.Tap.{Tap}
use Rattle.words.proofs.ProgramRanges.{program_ranges}
use Rattle.machine.specs.Steps.{present_place}
use Rattle.machine.specs.Wirings.{wire_of, wires_of, wired_cell, wiring_of, register_at, line_starts}
use Rattle.machine.proofs.Histories.{node_source}
use Rattle.machine.proofs.Wires.{wires_few, wires_more, cells_more}
use Rattle.machine.proofs.wiring.Wiring.of.Goals as goal

pub put_wires-requires-clause-room : goal.put_wires-requires-clause-room
put_wires-requires-clause-room c =
    let p = c.args.program.now.table in
    let k = c.loop-cell.cell-index in
    let range = program_ranges p c.args.program.now.in_range in
    let below : k < length p.cells.items = omega (arith, c.loop-cell-test.true, ap length c.cells-cell-items.ensures) in
    let taps : length c.deref.result.now ≤ 33 = c.deref.ensures.1 in
    omega (arith, ap length c.loop-cell.invariant.wires, wires_few p range k (omega arith), range.cells, range.few)

pub register-requires : goal.register-requires
register-requires c =
    let p = c.args.program.now.table in
    let k = c.loop-cell.cell-index in
    let range = program_ranges p c.args.program.now.in_range in
    let below : k < length p.cells.items = omega (arith, c.loop-cell-test.true, ap length c.cells-cell-items.ensures) in
    let cell : c.cell-item.result ≡ get_or p.cells.items k c.cell-item.result = c.cell-item.is ∙ ap (λ (xs : List Cell). get_or xs k c.cell-item.result) c.cells-cell-items.ensures in
    node_source c.of-layout.result.count c.cell-item.result.node
    (omega (arith, (range.ranges k c.cell-item.result below).node, ap (λ (x : Cell). x.node) cell, c.of-layout.ensures.count, c.count.ensures))

pub push-requires : goal.push-requires
push-requires c =
    let p = c.args.program.now.table in
    let k = c.loop-cell.cell-index in
    let range = program_ranges p c.args.program.now.in_range in
    let below : k < length p.cells.items = omega (arith, c.loop-cell-test.true, ap length c.cells-cell-items.ensures) in
    let long = ap length c.loop-cell.invariant.cells ∙ length-map-range_with_len (wired_cell p.count p.lines.items p.cells.items) 0 k in
    (omega arith, omega (arith, range.cells, range.few))

pub loop-cell-preserved : goal.loop-cell-preserved
loop-cell-preserved c =
    let p = c.args.program.now.table in
    let n = p.count in
    let lines = p.lines.items in
    let k = c.loop-cell.cell-index in
    let item = c.cell-item.result in
    let below : k < length p.cells.items = omega (arith, c.loop-cell-test.true, ap length c.cells-cell-items.ensures) in
    let cell : item ≡ get_or p.cells.items k item = c.cell-item.is ∙ ap (λ (xs : List Cell). get_or xs k item) c.cells-cell-items.ensures in
    let count : c.of-layout.result.count ≡ n = c.of-layout.ensures.count ∙ c.count.ensures in
    let laid : c.of-layout.result.lines.now ≡ lines = c.of-layout.ensures.lines ∙ c.lines.ensures in
    let wires : c.put_wires.new.wires.items ≡ wires_of n lines (take (k + 1) p.cells.items) =
    c.put_wires.ensures
    ∙ (λ i. c.loop-cell.invariant.wires i ++ map (wire_of (count i) (laid i)) (c.deref.ensures.0 i))
    ∙ sym (wires_more n lines p.cells.items k below item cell) in
    record {
      cells =
          c.push.ensures.items
          ∙ cells_more n lines p.cells.items k below c.loop-cell.cells.items item c.register.result c.len-first.result c.len.result c.loop-cell.invariant.cells cell
          (c.register.ensures ∙ ap (λ ls. present_place ls item.node) laid) (c.len-first.ensures.value ∙ ap length c.loop-cell.invariant.wires)
          (c.len.ensures.value ∙ ap length wires);
      wires = wires;
    }

pub register-output-requires : goal.register-output-requires
register-output-requires c =
    let p = c.args.program.now.table in
    let range = program_ranges p c.args.program.now.in_range in
    node_source c.of-layout.result.count c.output-source.result.source
    (omega (arith, range.output_node, ap (λ (t : Tap). t.source) c.output-source.ensures, c.of-layout.ensures.count, c.count.ensures))

pub returns : goal.returns
unfolding wiring_of
returns c =
    let p = c.args.program.now.table in
    let n = p.count in
    let lines = p.lines.items in
    let all : c.loop-cell.cell-index ≡ length p.cells.items = omega (arith, c.loop-cell-test.false, c.loop-cell.auto.cell-index-end, ap length c.cells-cell-items.ensures) in
    let count : c.of-layout.result.count ≡ n = c.of-layout.ensures.count ∙ c.count.ensures in
    let laid : c.of-layout.result.lines.now ≡ lines = c.of-layout.ensures.lines ∙ c.lines.ensures in
    let cells = c.loop-cell.invariant.cells ∙ ap (λ k. map (wired_cell n lines p.cells.items) (range_with_len 0 k)) all in
    let wires = c.loop-cell.invariant.wires ∙ ap (λ k. wires_of n lines (take k p.cells.items)) all ∙ ap (wires_of n lines) (take_all (length p.cells.items) p.cells.items (omega arith)) in
    let starts = c.of-layout.result.placed ∙ ap line_starts laid in
    λ i.
    record {
      starts = record { items = starts i };
      cells = record { items = cells i };
      wires = record { items = wires i };
      output = (c.register-output.ensures ∙ (λ j. register_at (count j) (laid j) (c.output-source.ensures j).source (c.output-source.ensures j).delay)) i;
    }
