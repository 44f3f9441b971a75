-- What simulating a design promises.
use Rattle.std.specs.Prelude.{◌≡◌, ℕ, ◌+◌, ◌*◌, ◌<◌, ◌⊎◌, List, length, drop, Some, None, Ok, Err, Result, slice_index_or}
use Rattle.words.specs.declared.faults.Fault.{Fault}
use Rattle.words.specs.declared.graph.Graph.{Graph}
use Rattle.words.specs.Designs.{InRange, feed_at}
use Rattle.bench.specs.Firing.{place_in}
use Rattle.bench.specs.Orders.{Ranked}
use Rattle.cells.specs.Meaning.{Meaning}
use Rattle.machine.specs.declared.cell.Cell.{Cell}
use Rattle.machine.specs.Values.{Solves, SolvesBefore, output}
use Rattle.machine.specs.Plans.{Whole}
use Rattle.machine.specs.Refusals.{simulate_fault}
use Rattle.machine.specs.Buffers.{rest_in, value_in, input_in}

-- a history holds the values v: those of all times before t, and at t those of the first r nodes of an order
abbrev pub Filled : {E : Type 0} → ℕ → List ℕ → (ℕ → ℕ → E) → List E → E → ℕ → ℕ → Type 0
Filled n order v history d t r = (i s : ℕ) → i < n → ((s < t) ⊎ ((s ≡ t) × (place_in order i < r))) → value_in n history d i s ≡ v i s

-- Firing the cells of a plan at time t: a history that holds a design's values before t then holds those of t too.
abbrev pub Advances : {E A : Type 0} → List Cell → Meaning E A → List E → List E → List E → List E → ℕ → Type 0
Advances {E} plan m rest inputs before after t =
    (g : Graph) (order : List ℕ) → InRange g → Ranked g.count (feed_at g) order → Whole g order plan →
    (d : E) (v : ℕ → ℕ → E) → Solves g m (rest_in g.count rest d) (input_in inputs d) v → Filled g.count order v before d t 0 → Filled g.count order v after d (t + 1) 0

-- The history is written at the front of its row and solves the design, the outputs at the front of theirs, and the rest of both stays.
pub record Simulated {E A : Type 0} (g : Graph) (m : Meaning E A) (rest inputs before after outputs_before outputs_after : List E) : Type 0 where
  pub solves : (d : E) → SolvesBefore (length inputs) g m (rest_in g.count rest d) (input_in inputs d) (value_in g.count after d)
  pub outputs : (d : E) (t : ℕ) → t < length inputs → slice_index_or outputs_after t d ≡ output g (rest_in g.count rest d) (value_in g.count after d) t
  pub long : length after ≡ length before
  pub past_history : drop (g.count * length inputs) after ≡ drop (g.count * length inputs) before
  pub outputs_long : length outputs_after ≡ length outputs_before
  pub past_outputs : drop (length inputs) outputs_after ≡ drop (length inputs) outputs_before

-- The answer: the first of the simulator's questions that is answered no, and then both rows stay; else the design is simulated.
pub record Simulates {E A : Type 0} (g : Graph) (m : Meaning E A) (rest inputs before after outputs_before outputs_after : List E) (r : Result (Unit {0}) Fault) : Type 0 where
  pub refuses : (f : Fault) → simulate_fault g.count (length rest) (length inputs) (length before) (length outputs_before) ≡ Some f →
      (r ≡ Err f) × (after ≡ before) × (outputs_after ≡ outputs_before)
  pub simulates : simulate_fault g.count (length rest) (length inputs) (length before) (length outputs_before) ≡ None →
      (r ≡ Ok (tt {0})) × Simulated g m rest inputs before after outputs_before outputs_after
