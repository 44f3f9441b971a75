-- A design slowed by K and lagged: its current delays.
use Rattle.std.specs.Prelude.{◌≡◌, ℕ, ◌+◌, ◌-◌, ◌*◌, ◌<◌, ◌≤◌, Bool, false, cond, ◌&&◌, List, length, replicate, Some, None, Option, ◌==◌, nat_lt, slice_index_or}
use Rattle.std.specs.Option.{option_map}
use Rattle.words.specs.declared.graph.Graph.{Graph}
use Rattle.words.specs.Designs.{feed_at, input, max_nodes}
use Rattle.words.specs.ProgramTables.{max_factor, max_lag, max_delay}
use Rattle.bench.specs.declared.retiming.NodeRecord.{NodeRecord}
use Rattle.bench.specs.declared.retiming.Retiming.{Retiming}
use Rattle.bench.specs.Firing.{firing}

abbrev pub unlagged : NodeRecord
unlagged = record { lag = 0 }

-- d(i)
abbrev pub lag_at : Retiming → ℕ → ℕ
lag_at p i = (slice_index_or p.records i unlagged).lag

-- the lag of a source; the input has none
abbrev pub source_lag : Retiming → ℕ → ℕ
source_lag p j = cond (j == input) 0 (lag_at p j)

-- K × a + d(i): the current delay of a feed of delay a from a source that does not lag
abbrev pub ahead : Retiming → ℕ → ℕ → ℕ
ahead p i a = p.factor * a + lag_at p i

-- the current delay of a feed from j to i that has delay a: K × a + d(i) − d(j)
abbrev pub delay_of : Retiming → ℕ → ℕ → ℕ → ℕ
delay_of p i j a = ahead p i a - source_lag p j

-- the current delay of node i's feed from source j, if there is one
abbrev pub current_delay : Graph → Retiming → ℕ → ℕ → Option ℕ
current_delay g p i j = option_map (delay_of p i j) (feed_at g i j)

-- the output's current delay: K × c
abbrev pub output_delay : Graph → Retiming → ℕ
output_delay g p = p.factor * g.output.delay

-- L: the lag of the output's node
abbrev pub latency : Graph → Retiming → ℕ
latency g p = lag_at p g.output.node

-- K is 1 and no node lags
abbrev pub at_rest : Retiming
at_rest = record { factor = 1; records = replicate max_nodes unlagged }

abbrev pub is_zero : Option ℕ → Bool
is_zero None = false
is_zero (Some d) = d == 0

-- node i hears node j at current delay 0, so it fires after it
abbrev pub waits : Graph → Retiming → ℕ → ℕ → Bool
waits g p i j = nat_lt j g.count && is_zero (current_delay g p i j)

-- the firing order: next is always the lowest-numbered unlisted node whose feeds of current delay 0 from nodes are all listed
abbrev pub order : Graph → Retiming → List ℕ
order g p = firing g.count (waits g p)

-- what a bench holds to: K, lags and current delays within their limits
pub record Sound (g : Graph) (p : Retiming) : Type 0 where
  pub table : length p.records ≡ max_nodes
  pub rest : (i : ℕ) → g.count ≤ i → lag_at p i ≡ 0
  pub slowed : 1 ≤ p.factor
  pub slow : p.factor ≤ max_factor
  pub lags : (i : ℕ) → lag_at p i ≤ max_lag
  pub low : (i j a : ℕ) → i < g.count → feed_at g i j ≡ Some a → source_lag p j ≤ ahead p i a
  pub high : (i j a : ℕ) → i < g.count → feed_at g i j ≡ Some a → ahead p i a ≤ source_lag p j + max_delay
  pub output : output_delay g p ≤ max_delay
