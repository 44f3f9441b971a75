-- Lists of lag, slow and settle, and what they amount to.
use Rattle.std.specs.Prelude.{◌≡◌, ℕ, ◌*◌, ◌<◌, List, [], ◌∷◌, ℤ, pos, ◌+ℤ◌, ◌*ℤ◌, Some, None, Option, slice_index_or}
use Rattle.std.specs.Option.{option_or}
use Rattle.words.specs.declared.faults.Fault.{Fault}
use Rattle.words.specs.declared.graph.Graph.{Graph}
use Rattle.bench.specs.declared.retiming.Retiming.{Retiming}
use Rattle.bench.specs.declared.calls.Call.{Call}
use Rattle.bench.specs.declared.calls.Call.TheVariants.{Lag, Slow, Settle}
use Rattle.bench.specs.Moves.{moved, lag_fault, slow_fault, settle_fault, ranks}
use Rattle.bench.specs.Refusals.{unless_kept}
use Rattle.bench.specs.Retimings.{lag_at}

-- the questions that a call puts
abbrev pub call_fault : Graph → Retiming → Call → Option Fault
call_fault g p (Lag shifts) = lag_fault g p shifts.now
call_fault g p (Slow f) = slow_fault g p f
call_fault g p Settle = settle_fault g p

-- a factor and a row of shifts
pub record Move : Type 0 where
  pub factor : ℕ
  pub shifts : List ℤ

-- what an accepted call counts as: a slow its factor, a lag its row, and a settle n and then the ranks that stood before it
abbrev pub counts_as : Graph → Retiming → Call → Move
counts_as g p (Lag shifts) = record { factor = 1; shifts = shifts.now }
counts_as g p (Slow f) = record { factor = f; shifts = [] }
counts_as g p Settle = record { factor = g.count; shifts = ranks g p }

-- the retiming after a call; a refused one changes nothing
abbrev pub after : Graph → Retiming → Call → Retiming
after g p c = unless_kept (call_fault g p c) (moved p (counts_as g p c).factor (counts_as g p c).shifts) p

unfoldable pub ended : Graph → Retiming → List Call → Retiming
ended g p [] = p
ended g p (c ∷ cs) = ended g (after g p c) cs

abbrev pub if_accepted : Option Fault → Move → List Move → List Move
if_accepted None m ms = m ∷ ms
if_accepted (Some f) m ms = ms

-- the accepted calls' moves, in order
unfoldable pub moves : Graph → Retiming → List Call → List Move
moves g p [] = []
moves g p (c ∷ cs) = if_accepted (call_fault g p c) (counts_as g p c) (moves g (after g p c) cs)

abbrev pub if_kept : Option Fault → Call → Option Call
if_kept None c = Some c
if_kept (Some f) c = None

-- the last of the calls that was accepted, if one was
unfoldable pub last_accepted : Graph → Retiming → List Call → Option Call
last_accepted g p [] = None
last_accepted g p (c ∷ cs) = option_or (last_accepted g (after g p c) cs) (if_kept (call_fault g p c) c)

-- the product of the factors
unfoldable pub product : List Move → ℕ
product [] = 1
product (m ∷ ms) = m.factor * product ms

-- the sum of node i's shifts, each times the factors after it
unfoldable pub shifted : ℕ → List Move → ℤ
shifted i [] = pos 0
shifted i (m ∷ ms) = pos (product ms) *ℤ slice_index_or m.shifts i (pos 0) +ℤ shifted i ms

-- K is multiplied by the product of the factors, and each lag by it too, with the sum of its shifts added, each times the factors after it.
-- From K = 1 and no lags, K is that product and each lag that sum.
pub record Law (g : Graph) (p : Retiming) (ms : List Move) (q : Retiming) : Type 0 where
  pub factor : q.factor ≡ p.factor * product ms
  pub lags : (i : ℕ) → i < g.count → pos (lag_at q i) ≡ pos (lag_at p i * product ms) +ℤ shifted i ms
