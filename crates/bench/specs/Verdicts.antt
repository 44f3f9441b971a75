-- When a bench is systolic, and which breach is the lowest.
use Rattle.std.specs.Prelude.{◌≡◌, ℕ, ◌<◌, ◌≤◌, Bool, false, cond, ◌&&◌, List, ◌++◌, Some, None, Option, Ok, Err, Result, ◌==◌, ◌≢◌, nat_lt, codes, decimal}
use Rattle.words.specs.declared.graph.Graph.{Graph}
use Rattle.words.specs.Designs.{sources}
use Rattle.bench.specs.declared.retiming.Retiming.{Retiming}
use Rattle.bench.specs.declared.verdict.Breach.{Breach}
use Rattle.bench.specs.declared.verdict.Breach.TheVariants.{C1, C2}
use Rattle.bench.specs.First.{first}
use Rattle.bench.specs.Retimings.{current_delay}

-- C1: every feed from a node has current delay at least 1
abbrev pub C1Holds : Graph → Retiming → Type 0
C1Holds g p = (i j d : ℕ) → i < g.count → j < g.count → current_delay g p i j ≡ Some d → 1 ≤ d

-- C2: the feeds from one source, a node or the input, have distinct current delays
abbrev pub C2Holds : Graph → Retiming → Type 0
C2Holds g p = (j i k d : ℕ) → j < sources → i < k → k < g.count → current_delay g p i j ≡ Some d → current_delay g p k j ≢ Some d

-- whether a feed is there, at that delay
abbrev pub hears : Option ℕ → ℕ → Bool
hears None d = false
hears (Some e) d = e == d

-- whether two feeds are there, at one delay
abbrev pub clash : Option ℕ → Option ℕ → Bool
clash None o = false
clash (Some d) o = hears o d

-- C1 by node, then source
abbrev pub c1_at : Graph → Retiming → ℕ → ℕ → Option Breach
c1_at g p i j = cond (hears (current_delay g p i j) 0) (Some (C1 i j)) None

abbrev pub c1_breach : Graph → Retiming → Option Breach
c1_breach g p = first (λ i. first (c1_at g p i) g.count) g.count

-- C2 by source, then the pair's smaller and larger node
abbrev pub c2_at : Graph → Retiming → ℕ → ℕ → ℕ → Option Breach
c2_at g p j i k = cond (nat_lt i k && clash (current_delay g p i j) (current_delay g p k j)) (Some (C2 j i k)) None

abbrev pub c2_breach : Graph → Retiming → Option Breach
c2_breach g p = first (λ j. first (λ i. first (c2_at g p j i) g.count) g.count) sources

-- C1 before C2
abbrev pub judged : Option Breach → Option Breach → Result (Unit {0}) Breach
judged (Some breach) o = Err breach
judged None (Some breach) = Err breach
judged None None = Ok tt

abbrev pub verdict : Graph → Retiming → Result (Unit {0}) Breach
verdict g p = judged (c1_breach g p) (c2_breach g p)

-- the text of a breach: which of the two, and its places in decimal
abbrev pub breach_text : Breach → List ℕ
breach_text (C1 node source) = codes "C1 " ++ (decimal node ++ (codes " " ++ decimal source))
breach_text (C2 source smaller larger) = codes "C2 " ++ (decimal source ++ (codes " " ++ (decimal smaller ++ (codes " " ++ decimal larger))))
