-- Lent buffers: what a call writes into them, and what it leaves.
use Rattle.std.specs.Prelude.{◌≡◌, ℕ, ◌+◌, cond, List, ◌++◌, length, take, drop, Ok, Err, Result, nat_lt}
use Rattle.words.specs.declared.faults.Fault.{Fault}
use Rattle.bench.specs.Refusals.{too_short}

-- a buffer with these items written over it from that place on
abbrev pub overlaid : {X : Type 0} → List X → ℕ → List X → List X
overlaid buffer at items = take at buffer ++ (items ++ drop (at + length items) buffer)

-- Writing items to a buffer's front: question 14 if it is too short, and then nothing is written; else how many there are, and the rest of
-- the buffer stays.
pub record Written {X : Type 0} (items before after : List X) (r : Result ℕ Fault) : Type 0 where
  pub answer : r ≡ cond (nat_lt (length before) (length items)) (Err (too_short (length before) (length items))) (Ok (length items))
  pub buffer : after ≡ cond (nat_lt (length before) (length items)) before (overlaid before 0 items)
