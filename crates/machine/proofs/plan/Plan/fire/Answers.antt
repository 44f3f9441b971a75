use Rattle.std.proofs.Common.{◌≡◌, ℕ, ◌+◌, ◌*◌, ◌<◌, ◌≤◌, List, [], map, length, get_or, take, sym, ap, ◌∙◌, subst, arith, rules}
use Rattle.std.proofs.lemmas.List.{drop-set-lt, length-take-le, get_or-take}
use Rattle.cells.specs.Meaning.{Meaning, applied}
use Rattle.words.specs.declared.program_table.Tap.{Tap}
use Rattle.machine.specs.declared.cell.Cell.{Cell}
use Rattle.machine.specs.Values.{operand}
use Rattle.machine.specs.Plans.{taps_in, Planned, Ready}
use Rattle.machine.specs.Buffers.{rest_in, input_in, heard_in}
use Rattle.machine.proofs.Filling.{value_is, filled_more, filled_on}
use Rattle.machine.proofs.Histories.{place_within}
use Rattle.machine.proofs.plan.Plan.fire.Goals as goal

-- what is read past a plan's cells, never met
abbrev first_cell : Cell
first_cell = record { node = 0; operation = 0; taps = []; count = 0 }

-- a cell that is read among the first of a table
module _ (count : ℕ) (cells : List Cell) (table : length cells ≡ 32) (few : count ≤ 32) (k : ℕ) (inside : k < length (take count cells)) where
  pub in_plan : k < count
  in_plan = omega (arith, length-take-le count cells (omega (arith, table, few)), inside)

  pub ready_cell : ((i : ℕ) (d : Cell) → i < count → Ready count (get_or cells i d)) → (n : ℕ) → count ≡ n → Ready n (get_or (take count cells) k first_cell)
  ready_cell ready n all = subst (λ i. Ready i (get_or (take count cells) k first_cell)) all (subst (Ready count) (sym (get_or-take count cells k first_cell in_plan)) (ready k first_cell in_plan))

  -- the place that a cell's value is written to
  pub place_front : ((i : ℕ) (d : Cell) → i < count → Ready count (get_or cells i d)) → (n T t : ℕ) → count ≡ n → t < T → t * n + (get_or (take count cells) k first_cell).node < n * T
  place_front ready n T t all lt = place_within n T (n * T) t (get_or (take count cells) k first_cell).node lt (ready_cell ready n all).node (omega arith)

-- what a cell computes, said of the design's own count and the meaning at first
same_value : {E A : Type 0} (q m : Meaning E A) (n k : ℕ) (o : ℕ) (taps : List Tap) (rest inputs h : List E) (d : E) (t : ℕ) (e : E) → q ≡ m → n ≡ k →
    e ≡ applied q o (map (operand (heard_in n rest inputs h d t)) taps) → e ≡ applied m o (map (operand (heard_in k rest inputs h d t)) taps)
same_value q m n k o taps rest inputs h d t e meant counted is =
    is ∙ ap (λ p. applied p o (map (operand (heard_in n rest inputs h d t)) taps)) meant ∙ ap (λ i. applied m o (map (operand (heard_in i rest inputs h d t)) taps)) counted

pub value-value-requires-clause-ready : goal.value-value-requires-clause-ready
value-value-requires-clause-ready g c =
    let plan = c.args.self.now in
    ready_cell plan.count plan.cells (omega arith) plan.few c.loop-cell.cell-index c.loop-cell-test.true plan.ready c.args.moment.now.count c.requires.all

pub offset_bounds-history-moment : goal.offset_bounds-history-moment
offset_bounds-history-moment g c =
    let at = c.args.moment.now in
    let plan = c.args.self.now in
    let cell = get_or (take plan.count plan.cells) c.loop-cell.cell-index first_cell in
    let front = place_front plan.count plan.cells (omega arith) plan.few c.loop-cell.cell-index c.loop-cell-test.true plan.ready at.count
    (length at.inputs.now) at.time c.requires.all at.within in
    let l : at.time * at.count + cell.node < length c.loop-cell.history = omega (arith, front, c.requires.history, c.loop-cell.auto.history) in
    search rules

pub loop-cell-preserved : goal.loop-cell-preserved
loop-cell-preserved g c =
    let m = g.L.CellLibrary.meaning in
    let at = c.args.moment.now in
    let k = c.loop-cell.cell-index in
    let plan = c.args.self.now in
    let cell = get_or (take plan.count plan.cells) c.loop-cell.cell-index first_cell in
    let h = c.loop-cell.history in
    let place = at.time * at.count + cell.node in
    let front = place_front plan.count plan.cells (omega arith) plan.few k c.loop-cell-test.true plan.ready at.count (length at.inputs.now) at.time c.requires.all at.within in
    record {
      same = cc;
      past = cc (drop-set-lt (at.count * length at.inputs.now) h place c.value-value.result front);
      filled = λ graph order range ranked whole d v solves start.
          let n : at.count ≡ graph.count = sym (length-take-le c.args.self.now.count c.args.self.now.cells (omega arith) ∙ c.requires.all) ∙ whole.count in
          let lk : k < graph.count = omega (arith, in_plan plan.count plan.cells (omega arith) plan.few k c.loop-cell-test.true, c.requires.all, n) in
          let planned : Planned graph (get_or order k 0) cell = whole.cells k first_cell lk in
          let filled = c.loop-cell.invariant.filled graph order range ranked whole d v solves start in
          let is = same_value _ (m c.args.library.now) at.count graph.count cell.operation (taps_in cell) at.rest.now at.inputs.now h d at.time c.value-value.result c.loop-cell.invariant.same n
          (c.value-value.ensures.value d) in
          filled_more graph range order ranked (m c.args.library.now) (rest_in graph.count at.rest.now d) (input_in at.inputs.now d) v solves h d at.time k lk filled place c.value-value.result
          (ap (λ i. at.time * i + cell.node) n ∙ ap (λ i. at.time * graph.count + i) planned.node)
          (omega (arith, front, c.requires.history, c.loop-cell.auto.history))
          (value_is graph range order ranked (m c.args.library.now) (rest_in graph.count at.rest.now d) (input_in at.inputs.now d) v solves h d at.time k lk filled cell c.value-value.result planned is);
    }

pub returns-clause-values : goal.returns-clause-values
returns-clause-values g c =
    λ graph order range ranked whole d v solves start.
    filled_on graph.count _ order ranked v c.loop-cell.history d c.args.moment.now.time c.loop-cell.cell-index
    (omega (arith, c.loop-cell-test.false, c.loop-cell.auto.cell-index-end, whole.count))
    (c.loop-cell.invariant.filled graph order range ranked whole d v solves start)
