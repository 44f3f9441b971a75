-- Lag, slow and settle as moves, and the questions that each puts.
use Rattle.std.specs.Prelude.{ℕ, ◌+◌, ◌*◌, Bool, false, cond, ◌&&◌, List, [], map, length, get_or, ℤ, pos, negsuc, ◌+ℤ◌, Some, None, Option, ◌==◌, nat_le, nat_lt, slice_index_or}
use Rattle.std.specs.List.{range_with_len}
use Rattle.words.specs.declared.faults.Fault.{Fault}
use Rattle.words.specs.declared.graph.Node.{Node}
use Rattle.words.specs.declared.graph.Graph.{Graph}
use Rattle.words.specs.Designs.{node_at, input, sources, max_nodes}
use Rattle.bench.specs.declared.retiming.NodeRecord.{NodeRecord}
use Rattle.bench.specs.declared.retiming.Retiming.{Retiming}
use Rattle.std.specs.Option.{option_or}
use Rattle.bench.specs.First.{first}
use Rattle.bench.specs.Retimings.{unlagged, source_lag, ahead, output_delay, order}
use Rattle.words.specs.ProgramTables.{max_factor, max_lag, max_delay}
use Rattle.bench.specs.Firing.{place_in}
use Rattle.bench.specs.Refusals.{wrong_row, wrong_shift, lag_out, delay_out, wrong_factor, too_slow}

-- A move multiplies K and every lag by a factor, and adds a row of shifts to the lags.
-- The lag to come of node i: d(i) × factor + its shift.
abbrev pub new_lag : List NodeRecord → ℕ → List ℤ → ℕ → ℤ
new_lag records factor shifts i = pos ((get_or records i unlagged).lag * factor) +ℤ slice_index_or shifts i (pos 0)

abbrev pub moved_lag : Retiming → ℕ → List ℤ → ℕ → ℤ
moved_lag p factor shifts i = new_lag p.records factor shifts i

-- a lag in range, as a natural number
abbrev pub natural : ℤ → ℕ
natural (pos d) = d
natural (negsuc d) = 0

abbrev pub new_record : List NodeRecord → ℕ → List ℤ → ℕ → NodeRecord
new_record records factor shifts i = record { lag = natural (new_lag records factor shifts i) }

unfoldable pub moved : Retiming → ℕ → List ℤ → Retiming
moved p factor shifts = record { factor = p.factor * factor; records = map (new_record p.records factor shifts) (range_with_len 0 max_nodes) }

-- from 0 to 4,095
abbrev pub is_lag : ℤ → Bool
is_lag (pos d) = nat_le d max_lag
is_lag (negsuc d) = false

-- 10, at one node
abbrev pub lag_fault_at : ℤ → ℕ → Option Fault
lag_fault_at lag i = cond (is_lag lag) None (Some (lag_out i))

-- 10, over the lags to come of n nodes: the lowest that is out of range
abbrev pub lags_fault : ℕ → (ℕ → ℤ) → Option Fault
lags_fault n lags = first (λ i. lag_fault_at (lags i) i) n

-- 11, at one feed
abbrev pub feed_fault : Retiming → ℕ → ℕ → Option ℕ → Option Fault
feed_fault p i j None = None
feed_fault p i j (Some a) = cond (nat_le (source_lag p j) (ahead p i a) && nat_le (ahead p i a) (source_lag p j + max_delay)) None (Some (delay_out i j))

-- 11, at one node: by source
abbrev pub node_fault : Retiming → ℕ → Node → Option Fault
node_fault p i node = first (λ j. feed_fault p i j (slice_index_or node.feeds j None)) sources

-- 11, at the output
abbrev pub output_fault : Graph → Retiming → Option Fault
output_fault g p = cond (nat_le (output_delay g p) max_delay) None (Some (delay_out input g.output.node))

-- 11, over the delays to come: by node and source, the output last
unfoldable pub delays_fault : Graph → Retiming → Option Fault
delays_fault g p = option_or (first (λ i. node_fault p i (node_at g i)) g.count) (output_fault g p)

-- 10 and 11 of what a move makes
abbrev pub move_fault : Graph → Retiming → ℕ → List ℤ → Option Fault
move_fault g p factor shifts = option_or (lags_fault g.count (moved_lag p factor shifts)) (delays_fault g (moved p factor shifts))

-- 13, 10 and 11
unfoldable pub made_fault : Graph → Retiming → ℕ → List ℤ → Option Fault
made_fault g p factor shifts = cond (nat_le (p.factor * factor) max_factor) (move_fault g p factor shifts) (Some (too_slow p.factor factor))

-- slow: 12, 13, 10, 11
unfoldable pub slow_fault : Graph → Retiming → ℕ → Option Fault
slow_fault g p factor = cond (nat_le 1 factor && nat_le factor max_factor) (made_fault g p factor []) (Some (wrong_factor factor))

-- from −4,095 to 4,095
abbrev pub is_shift : ℤ → Bool
is_shift (pos d) = nat_le d max_lag
is_shift (negsuc d) = nat_lt d max_lag

-- 9: the lowest shift that is out of range
abbrev pub shifts_fault : List ℤ → Option Fault
shifts_fault shifts = first (λ i. cond (is_shift (slice_index_or shifts i (pos 0))) None (Some (wrong_shift i))) (length shifts)

-- lag: 8, 9, 10, 11
unfoldable pub lag_fault : Graph → Retiming → List ℤ → Option Fault
lag_fault g p shifts =
    cond (length shifts == g.count) (option_or (shifts_fault shifts) (move_fault g p 1 shifts)) (Some (wrong_row (length shifts) g.count))

-- each node's rank: its place in the firing order
abbrev pub ranks : Graph → Retiming → List ℤ
ranks g p = map (λ i. pos (place_in (order g p) i)) (range_with_len 0 g.count)

-- settle: slow by n, then lag by the ranks that stood before; 13, 10, 11 of the final result
unfoldable pub settle_fault : Graph → Retiming → Option Fault
settle_fault g p = made_fault g p g.count (ranks g p)
