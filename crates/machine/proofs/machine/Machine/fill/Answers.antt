use Rattle.std.proofs.Common.{◌≡◌, ℕ, ◌+◌, ◌-◌, ◌<◌, ◌≤◌, List, ◌++◌, length, get_or, sum, take, drop, replicate, sym, ap, ◌∙◌, arith, rules}
use Rattle.std.proofs.lemmas.List.{take_all, length-take-le, length-drop}
use Rattle.std.proofs.lemmas.List.Sums.{sum_by_more, sum_by-take-le}
use borrow.Rule.Slice.PartMut.{put_mid}
use Rattle.words.specs.declared.program_table.ProgramTable.{ProgramTable}
use Rattle.words.specs.ProgramTables.{ProgramInRange}
use Rattle.words.proofs.ProgramRanges.{program_ranges}
use Rattle.machine.specs.Steps.{needed}
use Rattle.machine.specs.Starting.{lines_at_rest, registers_at_rest}
use Rattle.machine.proofs.Resting.{rest_none, rest_more, rest_long, rest_long_of, registers_long, front_more}
use Rattle.machine.proofs.machine.Machine.fill.Goals as goal

-- where a line lies in the registers
module _ (p : ProgramTable) (range : ProgramInRange p) (rest_len long k start end : ℕ) (rests : rest_len ≡ p.count + 1) (room : needed p.count p.lines.items ≤ long)
    (l : k < rest_len) (at : start ≡ sum (take k p.lines.items)) (to : end ≡ sum (take (k + 1) p.lines.items)) where
  below : k < length p.lines.items
  below = omega (arith, range.lines)

  line_long : end ≡ start + get_or p.lines.items k 0
  line_long = omega (arith, sum_by_more (λ x. x) p.lines.items k 0 below)

  within : end ≤ long
  within = omega (arith, sum_by-take-le (λ x. x) p.lines.items (k + 1))

-- the sum of one line more
sum_more : (lines : List ℕ) (k : ℕ) → k < length lines → sum (take k lines) + get_or lines k 0 ≡ sum (take (k + 1) lines)
sum_more lines k l = sym (sum_by_more (λ x. x) lines k 0 l)

length_part : {E : Type 0} (at n : ℕ) (row : List E) → at + n ≤ length row → length (take n (drop at row)) ≡ n
length_part at n row l = length-take-le n (drop at row) (omega (arith, length-drop at row))

pub loop-line-init : goal.loop-line-init
loop-line-init g c = ap (λ xs. xs ++ c.args.registers.now) (sym rest_none)

pub slice_bounds-fill-count : goal.slice_bounds-fill-count
slice_bounds-fill-count g c =
    let p = c.args.self.now.program.table in
    let range = program_ranges p c.args.self.now.program.in_range in
    omega (arith, line_long p range (length c.args.rest.now) (length c.args.registers.now) c.loop-line.line c.line_start-start.result c.line_start-end.result c.requires.rest c.requires.room c.loop-line-test.true c.line_start-start.ensures.start c.line_start-end.ensures.start)

pub slice_bounds-fill-start : goal.slice_bounds-fill-start
slice_bounds-fill-start g c =
    let p = c.args.self.now.program.table in
    let range = program_ranges p c.args.self.now.program.in_range in
    let order : c.line_start-start.result ≤ c.line_start-end.result =
    omega (arith, line_long p range (length c.args.rest.now) (length c.args.registers.now) c.loop-line.line c.line_start-start.result c.line_start-end.result c.requires.rest c.requires.room c.loop-line-test.true c.line_start-start.ensures.start c.line_start-end.ensures.start) in
    let inside : c.line_start-end.result ≤ length c.loop-line.registers =
    omega (arith, c.loop-line.auto.registers, within p range (length c.args.rest.now) (length c.args.registers.now) c.loop-line.line c.line_start-start.result c.line_start-end.result c.requires.rest c.requires.room c.loop-line-test.true c.line_start-start.ensures.start c.line_start-end.ensures.start) in
    search rules

pub loop-line-preserved : goal.loop-line-preserved
loop-line-preserved g c =
    let p = c.args.self.now.program.table in
    let range = program_ranges p c.args.self.now.program.in_range in
    let lines = p.lines.items in
    let rest = c.args.rest.now in
    let row = c.args.registers.now in
    let k = c.loop-line.line in
    let v = c.index-rest-line.result in
    let start = c.line_start-start.result in
    let end = c.line_start-end.result in
    let at : start ≡ sum (take k lines) = c.line_start-start.ensures.start in
    let to : end ≡ sum (take (k + 1) lines) = c.line_start-end.ensures.start in
    let low = below p range (length rest) (length row) k start end c.requires.rest c.requires.room c.loop-line-test.true at to in
    let long : end ≡ start + get_or lines k 0 = line_long p range (length rest) (length row) k start end c.requires.rest c.requires.room c.loop-line-test.true at to in
    let inside : end ≤ length row = within p range (length rest) (length row) k start end c.requires.rest c.requires.room c.loop-line-test.true at to in
    let same : length rest ≡ length lines = omega (arith, c.requires.rest, range.lines) in
    let part : c.fill.new.line ≡ replicate (get_or lines k 0) v =
    c.fill.ensures ∙ ap (λ n. replicate n v) (length_part start (end - start) c.loop-line.registers (omega (arith, c.loop-line.auto.registers)) ∙ omega arith) in
    ap (λ regs. put_mid start (end - start) regs c.fill.new.line) c.loop-line.invariant
    ∙ front_more (lines_at_rest (take k lines) (take k rest)) row (replicate (get_or lines k 0) v) c.fill.new.line (sum (take k lines)) (get_or lines k 0) start (end - start)
    (rest_long_of lines rest k same (omega arith)) at (omega arith) part
    ∙ ap (λ xs. (lines_at_rest (take k lines) (take k rest) ++ replicate (get_or lines k 0) xs) ++ drop (sum (take k lines) + get_or lines k 0) row) c.index-rest-line.is
    ∙ (λ i. sym (rest_more lines rest k v same low) i ++ drop (sum_more lines k low i) row)

pub returns : goal.returns
returns g c =
    let p = c.args.self.now.program.table in
    let range = program_ranges p c.args.self.now.program.in_range in
    let lines = p.lines.items in
    let rest = c.args.rest.now in
    let row = c.args.registers.now in
    let n = c.count-count.result in
    let present = c.line_start-present.result in
    let count : n ≡ p.count = c.count-count.ensures in
    let same : length rest ≡ length lines = omega (arith, c.requires.rest, range.lines) in
    let all : c.loop-line.line ≡ length lines = omega (arith, c.loop-line-test.false, c.loop-line.auto.line-end) in
    let whole : c.loop-line.registers ≡ lines_at_rest lines rest ++ drop (sum lines) row =
    c.loop-line.invariant
    ∙ (λ i. lines_at_rest (take (all i) lines) (take (all i) rest) ++ drop (sum (take (all i) lines)) row)
    ∙ (λ i. lines_at_rest (take_all (length lines) lines (omega arith) i) (take_all (length lines) rest (omega arith) i) ++ drop (sum (take_all (length lines) lines (omega arith) i)) row) in
    let at : present ≡ sum lines = c.line_start-present.ensures.start ∙ ap sum (take_all (n + 1) lines (omega (arith, range.lines))) in
    let part : c.copy_from_slice.new.self ≡ take p.count rest = c.copy_from_slice.ensures.after ∙ ap (λ m. take m rest) count in
    ap (λ regs. put_mid present (present + n - present) regs c.copy_from_slice.new.self) whole
    ∙ front_more (lines_at_rest lines rest) row (take p.count rest) c.copy_from_slice.new.self (sum lines) p.count present (present + n - present)
    (rest_long lines rest same) at (omega arith) part
    ∙ ap (λ m. registers_at_rest p rest ++ drop m row) (sym (registers_long p range rest c.requires.rest))
