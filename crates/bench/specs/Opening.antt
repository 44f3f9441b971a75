-- What opening a bench promises.
use Rattle.std.specs.Prelude.{◌≡◌, ℕ, ◌<◌, ◌≤◌, List, length, Err, Result, MatchResult}
use Rattle.words.specs.declared.faults.Fault.{Fault}
use Rattle.words.specs.declared.design.Design.{Design}
use Rattle.bench.specs.declared.bench.Bench.{Bench}
use Rattle.bench.specs.Buffers.{overlaid}
use Rattle.bench.specs.Cycles.{Cycle, AllZero, WellDefined}
use Rattle.bench.specs.Refusals.{short_cycle, zero_cycle}
use Rattle.bench.specs.Retimings.{at_rest}

-- The cycle buffer is asked for first. Then a well-defined design opens at rest and the buffer stays, and of any other a cycle of zero delays
-- is shown at the buffer's front: its length is the refusal's place, and the rest of the buffer stays.
pub record Opened (design : Design) (before after : List ℕ) (r : Result Bench Fault) : Type 0 where
  pub short : length before < design.graph.count → (r ≡ Err (short_cycle (length before) design.graph.count)) × (after ≡ before)
  pub opens : design.graph.count ≤ length before →
      MatchResult r
      (λ b. WellDefined design.graph × (b.design ≡ design) × (b.retiming ≡ at_rest) × (after ≡ before))
      (λ f. (c : List ℕ) × Cycle design.graph c × AllZero design.graph c × (f ≡ zero_cycle (length c)) × (after ≡ overlaid before 0 c))
