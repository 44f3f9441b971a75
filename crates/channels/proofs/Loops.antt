-- The node that hears itself at delay 0 is refused.
use Rattle.std.proofs.Common.{◌≡◌, ℕ, ◌<◌, ◌≤◌, List, [], ◌∷◌, length, get_or, Some, Ok, Err, Result, sym, ap, ◌∙◌, subst, ⊎_elim, arith}
use Rattle.std.proofs.lemmas.Bool.{cases_lt}
use Rattle.words.specs.declared.faults.Fault.{Fault}
use Rattle.words.specs.declared.graph.Graph.{Graph}
use Rattle.words.specs.declared.design.Design.{Design}
use Rattle.bench.specs.declared.bench.Bench.{Bench}
use Rattle.bench.specs.Cycles.{Cycle, WellDefined}
use Rattle.bench.specs.Opening.{Opened}
use Rattle.bench.specs.Refusals.{zero_cycle}
use Rattle.channels.specs.Examples.{loop}
use Rattle.channels.proofs.Computed.{loop_cycle}

-- every cycle of it has one node
single : (c : List ℕ) → Cycle loop c → length c ≡ 1
single c cycle =
    ⊎_elim
    (λ (l : 1 < length c).
    let same : get_or c 0 0 ≡ get_or c 1 0 = omega (arith, cycle.below 0 (omega arith), cycle.below 1 l) in
    absurd (omega (arith, cycle.apart 0 1 (omega arith) l same)))
    (λ (l : length c ≤ 1). omega (arith, cycle.some))
    (cases_lt 1 (length c))

ill_defined : WellDefined loop → ⊥
ill_defined defined =
    let late = defined (0 ∷ []) loop_cycle.0 in
    omega (arith, late.4, some_same late.1 0 (sym late.3 ∙ loop_cycle.1 late.0 late.2))
  where
    some_same : (x y : ℕ) → Some x ≡ Some y → x ≡ y
    some_same x y q = cc

pub loop_refused : (d : Design) (before after : List ℕ) (r : Result Bench Fault) → d.graph ≡ loop → 1 ≤ length before → Opened d before after r → r ≡ Err (zero_cycle 1)
loop_refused d before after (Ok b) is room o = absurd (ill_defined (subst WellDefined is (o.opens (omega (arith, ap (λ (g : Graph). g.count) is))).0))
loop_refused d before after (Err f) is room o =
    let shown = o.opens (omega (arith, ap (λ (g : Graph). g.count) is)) in
    ap Err (shown.3 ∙ ap zero_cycle (single shown.0 (subst (λ g. Cycle g shown.0) is shown.1)))
