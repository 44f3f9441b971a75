use Rattle.std.proofs.Common.{map, get_or, None, sym, ap, ◌∙◌, arith}
use Rattle.std.proofs.lemmas.List.{get_or-map, length-map}
use Rattle.cells.specs.Meaning.{Operand}
use Rattle.machine.specs.declared.wiring.Wire.{Wire}
use Rattle.machine.specs.Reading.{wire_operand}
use Rattle.machine.proofs.Gathering.{gathered_more}
use Rattle.machine.proofs.step.compute.Goals as goal

-- what is read past a row of wires, never met
abbrev no_wire : Wire
no_wire = record { source = 0; register = None }

pub loop-wire-preserved : goal.loop-wire-preserved
loop-wire-preserved g c =
    let m = g.L.CellLibrary.meaning in
    let row = c.args.wires.now in
    let i = c.loop-wire.wire-index in
    record {
      same = c.next-sum.ensures.same ∙ c.loop-wire.invariant.same;
      so_far = λ d.
          let f = wire_operand c.args.input c.args.registers.now d in
          let y : Operand g.row.L-Elem.Denot = f (get_or row i no_wire) in
          gathered_more (m c.first-sum.new.self) c.args.operation (map f row) (m c.loop-wire.library) i c.loop-wire.sum c.next-sum.result y c.loop-wire.invariant.same
          (omega (arith, length-map row f, c.loop-wire-test.true)) (sym (get_or-map f row i no_wire y c.loop-wire-test.true)) (c.loop-wire.invariant.so_far d)
          (c.next-sum.ensures.value (c.requires i no_wire c.loop-wire-test.true).source ∙ ap (λ e. (m c.loop-wire.library).next c.args.operation y.0 c.loop-wire.sum e) (c.value-operand.ensures d));
    }
