-- Every refusal at opening and of the bench: its question, its layer and its places.
use Rattle.std.specs.Prelude.{ℕ, Some, None, Ok, Err, Option, Result}
use Rattle.words.specs.declared.faults.Fault.{Fault}
use Rattle.words.specs.Refusals.{design_fault, bench_fault}
use Rattle.words.specs.declared.faults.DesignQuestion.TheVariants as opening
use Rattle.words.specs.declared.faults.BenchQuestion.TheVariants as bench

-- 6: has the cycle buffer n numbers? The length given, and n.
abbrev pub short_cycle : ℕ → ℕ → Fault
short_cycle given needed = design_fault opening.CycleBuffer given needed

-- 7: is the design well-defined? The length of the cycle shown.
abbrev pub zero_cycle : ℕ → Fault
zero_cycle length = design_fault opening.WellDefined length 0

-- 8: are there n shifts? The number given, and n.
abbrev pub wrong_row : ℕ → ℕ → Fault
wrong_row given needed = bench_fault bench.Row given needed

-- 9: is each from −4,095 to 4,095? Its index.
abbrev pub wrong_shift : ℕ → Fault
wrong_shift index = bench_fault bench.Shift index 0

-- 10: is each lag to come from 0 to 4,095? The node.
abbrev pub lag_out : ℕ → Fault
lag_out node = bench_fault bench.Lag node 0

-- 11: is each delay to come from 0 to 4,095? The node and the source; the output as 32 and its node.
abbrev pub delay_out : ℕ → ℕ → Fault
delay_out node source = bench_fault bench.Delay node source

-- 12: is the factor from 1 to 64? The factor.
abbrev pub wrong_factor : ℕ → Fault
wrong_factor factor = bench_fault bench.Factor factor 0

-- 13: is K × factor at most 64? K and the factor.
abbrev pub too_slow : ℕ → ℕ → Fault
too_slow current factor = bench_fault bench.Slowdown current factor

-- 14: is the buffer long enough? The length given, and the length needed.
abbrev pub too_short : ℕ → ℕ → Fault
too_short given needed = bench_fault bench.Buffer given needed

-- the answer of a call that puts its questions: what it makes, unless one is answered no
abbrev pub unless : {X : Type 0} → Option Fault → X → Result X Fault
unless None x = Ok x
unless (Some f) x = Err f

-- what a call leaves: the new state, unless one is answered no
abbrev pub unless_kept : {X : Type 0} → Option Fault → X → X → X
unless_kept None new old = new
unless_kept (Some f) new old = old
