-- How the registers' lines move on in a step.
use Rattle.std.specs.Prelude.{◌≡◌, ℕ, suc, ◌+◌, ◌<◌, cond, List, drop, ◌==◌, slice_index, slice_index_or, sum, take}
use Rattle.machine.specs.Steps.{present_place}

-- what comes to the front of line k of n nodes: the node's present value, or to the last line the input element
abbrev pub newest_of : {E : Type 0} → ℕ → List ℕ → E → E → List E → ℕ → E
newest_of n lines x d row k = cond (k == n) x (slice_index_or row (present_place lines k) d)

-- The first k lines have moved on by one place, and all that stands after them is as it was.
pub record LinesMoved {E : Type 0} (n : ℕ) (lines : List ℕ) (x d : E) (before after : List E) (k : ℕ) : Type 0 where
  pub newest : (i : ℕ) → i < k → 0 < slice_index lines i → slice_index_or after (sum (take i lines)) d ≡ newest_of n lines x d before i
  pub moved : (i p : ℕ) → i < k → suc p < slice_index lines i → slice_index_or after (sum (take i lines) + suc p) d ≡ slice_index_or before (sum (take i lines) + p) d
  pub rest : drop (sum (take k lines)) after ≡ drop (sum (take k lines)) before
