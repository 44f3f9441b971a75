-- What a cell library computes: three fixed functions.
use Rattle.std.specs.Prelude.{ℕ, ◌≤◌, List, fold}
use Rattle.std.specs.List.{AllByRecursion}

pub record Meaning (E A : Type 0) : Type 0 where
  -- the first running sum, from the operation
  pub first : ℕ → A
  -- the next, from operation, source, running sum and operand
  pub next : ℕ → ℕ → A → E → A
  -- the element, from operation and final running sum
  pub element : ℕ → A → E

-- an operand: the source that it comes from, and the element
abbrev pub Operand : Type 0 → Type 0
Operand E = ℕ × E

-- the running sum after a list of operands
abbrev pub gathered : {E A : Type 0} → Meaning E A → ℕ → List (Operand E) → A
gathered m operation operands = fold (λ sum x. m.next operation x.0 sum x.1) (m.first operation) operands

-- an operation applied to a list of operands
abbrev pub applied : {E A : Type 0} → Meaning E A → ℕ → List (Operand E) → E
applied m operation operands = m.element operation (gathered m operation operands)

-- each operand comes from a node or the input: sources 0 to 32
abbrev pub Sourced : {E : Type 0} → List (Operand E) → Type 0
Sourced operands = AllByRecursion (λ x. x.0 ≤ 32) operands
