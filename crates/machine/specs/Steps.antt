-- A step of an array: what its registers hold from one cycle to the next, and what it puts out.
use Rattle.std.specs.Prelude.{◌≡◌, ℕ, zero, suc, ◌+◌, ◌<◌, ◌≤◌, true, cond, List, map, ◌==◌, nat_lt, slice_index, slice_index_or, sum, take}
use Rattle.std.specs.List.{All}
use Rattle.words.specs.Designs.{input, is_source}
use Rattle.cells.specs.Meaning.{Meaning, applied}
use Rattle.machine.specs.Arrays.{Array}
use Rattle.machine.specs.Buffers.{rest_place}
use Rattle.machine.specs.Values.{heard, operand, past}

-- the length of source j's line, of a list of all lines' lengths: the nodes in order, then the input
abbrev pub line_long : ℕ → List ℕ → ℕ → ℕ
line_long n lines j = slice_index lines (rest_place n j)

-- Where the registers of n nodes stand in their row: every source's line in order, newest value first, then each node's present value.
abbrev pub line_place : ℕ → List ℕ → ℕ → ℕ → ℕ
line_place n lines j p = sum (take (rest_place n j) lines) + p

abbrev pub present_place : List ℕ → ℕ → ℕ
present_place lines i = sum lines + i

-- how many registers there are
abbrev pub needed : ℕ → List ℕ → ℕ
needed n lines = sum lines + n

-- what the registers hold: place p of each source's line, and each node's present value
pub record Registers (E : Type 0) : Type 0 where
  pub line : ℕ → ℕ → E
  pub present : ℕ → E

-- the registers that stand in a row
abbrev pub registers_in : {E : Type 0} → ℕ → List ℕ → List E → E → Registers E
registers_in n lines row d =
    record { line = λ j p. slice_index_or row (line_place n lines j p) d; present = λ i. slice_index_or row (present_place lines i) d }

-- What a tap hears in a cycle: at delay 0 the input element, or the present value that the node has after its cell has fired; at delay p the
-- value that has come to place p − 1 of the source's line.
abbrev pub hears : {E : Type 0} → (ℕ → ℕ → E) → (ℕ → E) → E → ℕ → ℕ → E
hears line now x j zero = cond (j == input) x (now j)
hears line now x j (suc p) = line j p

-- A step at a cycle, from the input element x to the element y that is put out: a cell whose lag is above the cycle holds its present value,
-- any other applies its operation. The output is read after all cells, and each line has then moved on by one place.
pub record Steps {E A : Type 0} (a : Array) (lines : List ℕ) (m : Meaning E A) (cycle : ℕ) (x : E) (before after : Registers E) (y : E) : Type 0 where
  pub present : (i : ℕ) → i < a.count →
      after.present i ≡ cond (nat_lt cycle (a.lag i)) (before.present i) (applied m (a.operation i) (map (operand (hears before.line after.present x)) (a.taps i)))
  pub output : y ≡ hears before.line after.present x a.output a.output_delay
  pub newest : (j : ℕ) → is_source a.count j ≡ true → 0 < line_long a.count lines j → after.line j 0 ≡ hears before.line after.present x j 0
  pub moved : (j p : ℕ) → is_source a.count j ≡ true → suc p < line_long a.count lines j → after.line j (suc p) ≡ before.line j p

-- every delay at which a tap or the output reads a source is at most the length of the source's line
pub record Reached (a : Array) (lines : List ℕ) : Type 0 where
  pub taps : (i : ℕ) → i < a.count → All (λ tap. tap.delay ≤ line_long a.count lines tap.source) (a.taps i)
  pub output_node : a.output < a.count
  pub output : a.output_delay ≤ line_long a.count lines a.output

-- Registers keep time with a history after τ cycles: place p of a line holds what its source gave p + 1 cycles before, and a present value is
-- what its node held one cycle before; or the rest value where that is before the start.
pub record KeepTime {E : Type 0} (a : Array) (lines : List ℕ) (rest x : ℕ → E) (u : ℕ → ℕ → E) (τ : ℕ) (r : Registers E) : Type 0 where
  pub line : (j p : ℕ) → is_source a.count j ≡ true → p < line_long a.count lines j → r.line j p ≡ heard rest u x τ j (suc p)
  pub present : (i : ℕ) → i < a.count → r.present i ≡ past (u i) (rest i) τ 1

-- registers that are filled with the rest values
pub record AtRest {E : Type 0} (a : Array) (lines : List ℕ) (rest : ℕ → E) (r : Registers E) : Type 0 where
  pub line : (j p : ℕ) → is_source a.count j ≡ true → p < line_long a.count lines j → r.line j p ≡ rest j
  pub present : (i : ℕ) → i < a.count → r.present i ≡ rest i
