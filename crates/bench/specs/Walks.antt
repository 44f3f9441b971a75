-- The walk along nodes that cannot be listed, up to the first that is met twice.
use Rattle.std.specs.Prelude.{◌≡◌, ℕ, suc, ◌<◌, ◌≤◌, Bool, true, cond, List, length, ◌==◌, slice_index}
use Rattle.bench.specs.Firing.{has, place_in}

-- what is met after place k of a path that goes on to `next`
abbrev pub met_after : List ℕ → ℕ → ℕ → ℕ
met_after path next k = cond (suc k == length path) next (slice_index path (suc k))

-- each node of the path waits for the one that is met after it
abbrev pub Follows : (ℕ → ℕ → Bool) → List ℕ → ℕ → Type 0
Follows waits path next = (k : ℕ) → k < length path → waits (slice_index path k) (met_after path next k) ≡ true

-- a path of distinct nodes below n that closes: it goes on to one of its own
pub record Closed (n : ℕ) (waits : ℕ → ℕ → Bool) (path : List ℕ) (next : ℕ) : Type 0 where
  pub few : length path ≤ n
  pub below : (i : ℕ) → has path i ≡ true → i < n
  pub apart : (k : ℕ) → k < length path → place_in path (slice_index path k) ≡ k
  pub follows : Follows waits path next
  pub closes : has path next ≡ true
