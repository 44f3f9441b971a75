use Rattle.std.proofs.Common.{◌≡◌, ◌++◌, map, drop, None}
use Rattle.std.specs.List.{range_with_len}
use Rattle.bench.specs.Moves.{new_lag, new_record, lags_fault}
use Rattle.bench.proofs.moves.Rescaling.apply.Given as goal

-- the records so far are moved, and none was out of range
abbrev pub invariant-loop-node : goal.invariant-loop-node
invariant-loop-node l =
    (l.records ≡ map (new_record l.initial.records l.self.factor l.self.shifts.now) (range_with_len 0 l.node) ++ drop l.node l.initial.records)
    × (lags_fault l.node (new_lag l.initial.records l.self.factor l.self.shifts.now) ≡ None)
