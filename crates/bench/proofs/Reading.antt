-- Reading the design in an input's bytes.
use Rattle.std.proofs.Common.{◌≡◌, ℕ, ◌%◌, List, length, Ok, Err, Result, ◌∙◌, arith}
use Rattle.words.specs.declared.faults.Fault.{Fault}
use Rattle.words.specs.declared.design.Design.{Design}
use Rattle.words.specs.Bytes.{taken, packed}
use Rattle.words.specs.Reading.{Reads}
use Rattle.words.proofs.Ranges.{ranges}
use Rattle.bench.specs.Answer.{Designed}

-- reading the whole words of an input
pub words_read : (bytes words : List ℕ) (r : Result Design Fault) → length (taken bytes) % 4 ≡ 0 → words ≡ packed (taken bytes) → Reads words r → Designed bytes r
words_read bytes words (Ok d) whole is reads =
    record {
      left_over = grind arith;
      refuses = grind arith;
      made = λ _ _. (ranges d.graph d.sound, reads.1 ∙ is);
    }
words_read bytes words (Err f) whole is reads = record { left_over = grind arith; refuses = grind arith; made = grind arith }
