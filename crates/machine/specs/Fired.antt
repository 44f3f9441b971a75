-- How the cells of a program fire in a step, in their order.
use Rattle.std.specs.Prelude.{◌≡◌, ℕ, ◌<◌, ◌≤◌, cond, List, drop, map, nat_lt, slice_index_or, sum}
use Rattle.words.specs.declared.program_table.ProgramTable.{ProgramTable}
use Rattle.cells.specs.Meaning.{Meaning, applied}
use Rattle.machine.specs.Arrays.{Array, array_in, rank_in}
use Rattle.machine.specs.Steps.{Registers, registers_in, hears, present_place, needed}
use Rattle.machine.specs.Values.{operand}

-- what the taps of node i hear in a step: the lines as they were, and the present values as they are
abbrev pub heard_by : {E A : Type 0} → Array → Meaning E A → E → Registers E → Registers E → ℕ → E
heard_by a m x before now i = applied m (a.operation i) (map (operand (hears before.line now.present x)) (a.taps i))

-- The first k cells have fired: a cell whose lag is above the cycle holds its present value, any other has applied its operation. All else is as
-- it was.
pub record CellsFired {E A : Type 0} (t : ProgramTable) (m : Meaning E A) (cycle : ℕ) (x d : E) (before now : List E) (k : ℕ) : Type 0 where
  pub lines : (q : ℕ) → q < sum t.lines.items → slice_index_or now q d ≡ slice_index_or before q d
  pub past : drop (needed t.count t.lines.items) now ≡ drop (needed t.count t.lines.items) before
  pub fired : (i : ℕ) → i < t.count → rank_in t i < k →
      slice_index_or now (present_place t.lines.items i) d
      ≡ cond (nat_lt cycle ((array_in t).lag i)) (slice_index_or before (present_place t.lines.items i) d)
      (heard_by (array_in t) m x (registers_in t.count t.lines.items before d) (registers_in t.count t.lines.items now d) i)
  pub held : (i : ℕ) → i < t.count → k ≤ rank_in t i → slice_index_or now (present_place t.lines.items i) d ≡ slice_index_or before (present_place t.lines.items i) d
