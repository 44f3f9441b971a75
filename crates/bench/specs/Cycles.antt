-- Cycles of a design, and which designs are well-defined.
use Rattle.std.specs.Prelude.{◌≡◌, ℕ, suc, ◌<◌, true, cond, List, length, is_some, Some, Option, ◌==◌, slice_index}
use Rattle.words.specs.declared.graph.Graph.{Graph}
use Rattle.words.specs.Designs.{feed_at}

-- the place after place k in a round of m
abbrev pub after : ℕ → ℕ → ℕ
after m k = cond (suc k == m) 0 (suc k)

-- the delay at which the node at place k is fed by the next, the last by the first
abbrev pub link : Graph → List ℕ → ℕ → Option ℕ
link g c k = feed_at g (slice_index c k) (slice_index c (after (length c) k))

-- a cycle: one or more distinct nodes, each fed by the next and the last by the first
pub record Cycle (g : Graph) (c : List ℕ) : Type 0 where
  pub some : 0 < length c
  pub below : (k : ℕ) → k < length c → slice_index c k < g.count
  pub apart : (k l : ℕ) → k < length c → l < length c → slice_index c k ≡ slice_index c l → k ≡ l
  pub fed : (k : ℕ) → k < length c → is_some (link g c k) ≡ true

-- all its delays are 0
abbrev pub AllZero : Graph → List ℕ → Type 0
AllZero g c = (k : ℕ) → k < length c → link g c k ≡ Some 0

-- a design is well-defined when every cycle has a delay above 0
abbrev pub WellDefined : Graph → Type 0
WellDefined g = (c : List ℕ) → Cycle g c → (k : ℕ) × (a : ℕ) × (k < length c) × (link g c k ≡ Some a) × (0 < a)
