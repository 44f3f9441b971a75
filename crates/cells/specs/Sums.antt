-- Cells that sum: whole and float cells.
use Rattle.std.specs.Prelude.{ℕ, false, cond, List, ℤ, pos, ◌+ℤ◌, ◌*ℤ◌, fold, ◌==◌, slice_index_or, Float}
use Rattle.std.specs.Float.{nan, fin, binary32}
use Rattle.std.specs.Float.Ieee.{add, mul}
use Rattle.std.specs.Int.{int_wrap, w32}
use Rattle.cells.specs.declared.weights.Weight.{Weight}
use Rattle.cells.specs.Arithmetic.{Arithmetic}
use Rattle.cells.specs.Meaning.{Meaning, Operand}

-- an operand from the weighted source is multiplied by the weight
abbrev pub weighted : {W : Type 0} → (W → W → W) → Weight W → ℕ → W → W
weighted times weight source x = cond (source == weight.source) (times x weight.factor) x

-- what a table is read as past its end; operations end before it
abbrev pub blank : {N : Type 0} → Arithmetic N → Weight N
blank a = record { factor = a.past_end; source = 0 }

-- cells that sum, by their arithmetic
abbrev pub summing_meaning : {N : Type 0} → Arithmetic N → List (Weight N) → Meaning N N
summing_meaning a table = record {
  first = λ o. a.start;
  next = λ o source sum x. a.plus sum (weighted a.times (slice_index_or table o (blank a)) source x);
  element = λ o sum. sum;
}

-- products and sums modulo 2^32
abbrev pub whole_arithmetic : Arithmetic ℤ
whole_arithmetic = record {
  start = pos 0;
  plus = λ sum x. int_wrap w32 (sum +ℤ x);
  times = λ x w. int_wrap w32 (x *ℤ w);
  past_end = pos 0;
}

abbrev pub whole_blank : Weight ℤ
whole_blank = blank whole_arithmetic

-- whole cells: products and sums modulo 2^32
abbrev pub whole_meaning : List (Weight ℤ) → Meaning ℤ ℤ
whole_meaning table = summing_meaning whole_arithmetic table

-- the sum in the integers, with no wrap
abbrev pub exact : Weight ℤ → List (Operand ℤ) → ℤ
exact weight operands = fold (λ sum x. sum +ℤ weighted ◌*ℤ◌ weight x.0 x.1) (pos 0) operands

-- +0
abbrev pub zero32 : Float
zero32 = fin false 0 (pos 0)

-- the product and then the sum each rounded to 32 bits
abbrev pub float_arithmetic : Arithmetic Float
float_arithmetic = record {
  start = zero32;
  plus = add binary32;
  times = mul binary32;
  past_end = nan;
}

abbrev pub float_blank : Weight Float
float_blank = blank float_arithmetic

-- float cells: from +0, the product and then the sum each rounded to 32 bits
abbrev pub float_meaning : List (Weight Float) → Meaning Float Float
float_meaning table = summing_meaning float_arithmetic table
