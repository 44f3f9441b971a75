use Rattle.std.proofs.Common.{◌≡◌, ℕ, ◌+◌, ◌-◌, ◌<◌, ◌≤◌, ◌∷◌, length, get_or, sum, take, drop, eqb, sym, refl, ap, ◌∙◌, subst, arith, rules}
use Rattle.std.proofs.lemmas.Bool.{cond-true, cond-false, eq-eqb, ne_eqb}
use Rattle.std.proofs.lemmas.List.{length-drop, length-take-le, take_all, get_or_default}
use Rattle.std.proofs.lemmas.List.Sums.{sum_by_more, sum_by-take-le}
use Rattle.words.specs.declared.program_table.ProgramTable.{ProgramTable}
use Rattle.words.specs.ProgramTables.{ProgramInRange}
use Rattle.words.proofs.ProgramRanges.{program_ranges}
use Rattle.machine.specs.Steps.{needed, present_place}
use Rattle.machine.specs.Moving.{newest_of, LinesMoved}
use Rattle.machine.proofs.LinesMoving.{lines_none, lines_more}
use Rattle.machine.proofs.Parts.{part_long, alike_from}
use Rattle.machine.proofs.machine.Machine.move_lines.Goals.{then-line-count, else-line-count}
use Rattle.machine.proofs.machine.Machine.move_lines.Goals as goal

-- where a line lies in the registers
module _ (p : ProgramTable) (range : ProgramInRange p) (k long start end : ℕ) (room : needed p.count p.lines.items ≤ long) (l : k < p.count + 1)
    (at : start ≡ sum (take k p.lines.items)) (to : end ≡ sum (take (k + 1) p.lines.items)) where
  below : k < length p.lines.items
  below = omega (arith, range.lines)

  line_long : end ≡ start + get_or p.lines.items k 0
  line_long = omega (arith, sum_by_more (λ x. x) p.lines.items k 0 below)

  within : end ≤ long
  within = omega (arith, sum_by-take-le (λ x. x) p.lines.items (k + 1))

pub loop-line-init : goal.loop-line-init
loop-line-init g c = (refl, λ d. lines_none c.args.self.now.program.table.count c.args.self.now.program.table.lines.items c.args.input d c.args.registers.now)

pub slice_bounds-shift-count : goal.slice_bounds-shift-count
slice_bounds-shift-count g c =
    let p = c.args.self.now.program.table in
    omega (arith, line_long p (program_ranges p c.args.self.now.program.in_range) c.loop-line.line (length c.args.registers.now) c.line_start-start.result c.line_start-end.result c.requires.room (omega (arith, c.loop-line-test.true, c.count-count.ensures)) c.line_start-start.ensures.start c.line_start-end.ensures.start)

pub slice_bounds-shift-start : goal.slice_bounds-shift-start
slice_bounds-shift-start g c =
    let p = c.args.self.now.program.table in
    let range = program_ranges p c.args.self.now.program.in_range in
    let few : c.loop-line.line < p.count + 1 = omega (arith, c.loop-line-test.true, c.count-count.ensures) in
    let order : c.line_start-start.result ≤ c.line_start-end.result =
    omega (arith, line_long p range c.loop-line.line (length c.args.registers.now) c.line_start-start.result c.line_start-end.result c.requires.room few c.line_start-start.ensures.start c.line_start-end.ensures.start) in
    let inside : c.line_start-end.result ≤ length c.loop-line.registers =
    omega (arith, c.loop-line.auto.registers, within p range c.loop-line.line (length c.args.registers.now) c.line_start-start.result c.line_start-end.result c.requires.room few c.line_start-start.ensures.start c.line_start-end.ensures.start) in
    search rules

pub loop-line-preserved : goal.loop-line-preserved
loop-line-preserved g c =
    let p = c.args.self.now.program.table in
    let range = program_ranges p c.args.self.now.program.in_range in
    let n = p.count in
    let lines = p.lines.items in
    let before = c.args.registers.now in
    let now = c.loop-line.registers in
    let k = c.loop-line.line in
    let at = c.line_start-start.result in
    let end = c.line_start-end.result in
    let few : k < n + 1 = omega (arith, c.loop-line-test.true, c.count-count.ensures) in
    let present = c.line_start-present.result in
    let present_is : present ≡ sum lines = c.line_start-present.ensures.start ∙ ap sum (take_all (c.count-count.result + 1) lines (omega (arith, range.lines, c.count-count.ensures))) in
    let low = below p range k (length before) at end c.requires.room few c.line_start-start.ensures.start c.line_start-end.ensures.start in
    let long = line_long p range k (length before) at end c.requires.room few c.line_start-start.ensures.start c.line_start-end.ensures.start in
    let inside = within p range k (length before) at end c.requires.room few c.line_start-start.ensures.start c.line_start-end.ensures.start in
    let room : at + (end - at) ≤ length now = omega (arith, long, inside, c.loop-line.auto.registers) in
    let segment : length (take (end - at) (drop at now)) ≡ end - at = length-take-le (end - at) (drop at now) (omega (arith, length-drop at now)) in
    let written : c.shift.new.line ≡ take (end - at) (c.if-line-count.newest ∷ take (end - at) (drop at now)) = c.shift.ensures ∙ ap (λ m. take m (c.if-line-count.newest ∷ take (end - at) (drop at now))) segment in (
      part_long now c.shift.new.line at (end - at) (ap length written ∙ length-take-le (end - at) (c.if-line-count.newest ∷ take (end - at) (drop at now)) (omega (arith, segment))) room ∙ c.loop-line.auto.registers,
      λ d.
          let so_far = c.loop-line.invariant.1 d in
          let newest : c.if-line-count.newest ≡ newest_of n lines c.args.input d before k = elim c.if-line-count.branch [
            | then-line-count w ↦
                w.newest-is ∙ w.index-registers-present.is ∙ get_or_default now (present + k) w.index-registers-present.result d (omega (arith, w.if-line-count.true, present_is, c.count-count.ensures, c.requires.room, c.loop-line.auto.registers))
                ∙ alike_from now before (sum (take k lines)) (present + k) d so_far.rest (omega (arith, present_is, sum_by-take-le (λ x. x) lines k))
                ∙ ap (λ q. get_or before (q + k) d) present_is
                ∙ sym (cond-false (eqb k n) c.args.input (get_or before (present_place lines k) d) (ne_eqb k n (λ e. omega (arith, w.if-line-count.true, c.count-count.ensures))))
            | else-line-count w ↦
                w.newest-is ∙ sym (cond-true (eqb k n) c.args.input (get_or before (present_place lines k) d) (eq-eqb k n (omega (arith, w.if-line-count.false, few, c.count-count.ensures))))
          ] in
          lines_more n lines c.args.input d before now c.shift.new.line k at (end - at) c.if-line-count.newest so_far low c.line_start-start.ensures.start (omega (arith, long)) room newest written,
    )

pub returns : goal.returns
returns g c =
    let p = c.args.self.now.program.table in
    let all : c.loop-line.line ≡ p.count + 1 = omega (arith, c.loop-line-test.false, c.loop-line.auto.line-end, c.count-count.ensures) in
    record {
      long = c.loop-line.auto.registers;
      moved = λ d. subst (LinesMoved p.count p.lines.items c.args.input d c.args.registers.now c.loop-line.registers) all (c.loop-line.invariant.1 d);
    }
