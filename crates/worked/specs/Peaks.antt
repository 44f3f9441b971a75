-- Cells that follow the peak of what they hear.
use Rattle.std.specs.Prelude.{ℕ, max}
use Rattle.cells.specs.Meaning.{Meaning}

abbrev pub peak_meaning : Meaning ℕ ℕ
peak_meaning = record {
  first = λ o. 0;
  next = λ o source sum x. max sum x;
  element = λ o sum. sum;
}
