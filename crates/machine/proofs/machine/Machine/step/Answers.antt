use Rattle.std.proofs.Common.{◌≡◌, ◌<◌, length, get_or, Some, None, Ok, Option, is_some, is_ok, sym, refl, ap, ◌∙◌, arith, rules}
use Rattle.std.proofs.lemmas.Bool.{true≢false, false≢true}
use Rattle.std.proofs.lemmas.List.{get_or_default}
use Rattle.words.specs.declared.faults.Fault.{Fault}
use Rattle.words.proofs.ProgramRanges.{program_ranges}
use Rattle.bench.specs.Refusals.{unless}
use Rattle.machine.specs.Arrays.{array_in}
use Rattle.machine.specs.Machines.{step_refusal}
use Rattle.machine.specs.Wirings.{register_at}
use Rattle.machine.proofs.CellWires.{output_register, output_low}
use Rattle.machine.proofs.Machined.{in_reach}
use Rattle.machine.proofs.SteppedOnce.{stepped_once, past_once}
use Rattle.machine.proofs.machine.Machine.step.Goals as goal

-- what is accepted is refused by no question
accepted : (o : Option Fault) → unless o (tt {0}) ≡ Ok (tt {0}) → o ≡ None
accepted None e = refl
accepted (Some f) e = absurd (false≢true (ap is_ok e))

pub bounds-registers-self : goal.bounds-registers-self
bounds-registers-self g c =
    let m = c.args.self.now in
    let t = m.program.table in
    let reached = in_reach (array_in t) t.lines.items m.reached in
    omega (arith, ap (λ w. w.output) m.wired, output_register t, output_low t (program_ranges t m.program.in_range) reached.output, c.in_ok-ask_step.ensures.registers, c.fire.ensures.long)

pub offset_bounds-registers-self : goal.offset_bounds-registers-self
offset_bounds-registers-self g c =
    let m = c.args.self.now in
    let t = m.program.table in
    let reached = in_reach (array_in t) t.lines.items m.reached in
    let below : m.wiring.output < length c.fire.new.registers =
    omega (arith, ap (λ w. w.output) m.wired, output_register t, output_low t (program_ranges t m.program.in_range) reached.output, c.in_ok-ask_step.ensures.registers, c.fire.ensures.long) in
    search rules

pub returns-clause-steps : goal.returns-clause-steps
returns-clause-steps g c =
    let m = c.args.self.now in
    let t = m.program.table in
    let range = program_ranges t m.program.in_range in
    let reached = in_reach (array_in t) t.lines.items m.reached in
    let mid = c.fire.new.registers in
    let y = c.index-registers-self.result in
    let none : step_refusal t c.args.registers.now m.cycle ≡ None = accepted _ (sym c.in_ok-ask_step.ensures.answer) in
    let register : m.wiring.output ≡ register_at t.count t.lines.items t.output.source t.output.delay = ap (λ w. w.output) m.wired ∙ output_register t in
    let below : m.wiring.output < length mid = omega (arith, register, output_low t range reached.output, c.in_ok-ask_step.ensures.registers, c.fire.ensures.long) in
    let out : (d : g.row.L-Elem.Denot) → y ≡ get_or mid (register_at t.count t.lines.items t.output.source t.output.delay) d = λ d. c.index-registers-self.is ∙ get_or_default mid m.wiring.output y d below ∙ ap (λ r. get_or mid r d) register in
    record {
      refuses = λ f e. absurd (true≢false (ap is_some (sym e ∙ none)));
      steps = λ e. (
        y,
        refl,
        record {
          steps = λ d.
              stepped_once t range reached (g.L.CellLibrary.meaning c.args.library.now) m.cycle c.args.input d c.args.registers.now mid c.move_lines.new.registers y (c.fire.ensures.fired d) (c.move_lines.ensures.moved d) (out d);
          kept = record {
            long = c.move_lines.ensures.long ∙ c.fire.ensures.long;
            past = past_once t range reached (g.L.CellLibrary.meaning c.args.library.now) m.cycle c.args.input y c.args.registers.now mid c.move_lines.new.registers y (c.fire.ensures.fired y) (c.move_lines.ensures.moved y) (out y);
          };
        },
        refl,
      );
    }
