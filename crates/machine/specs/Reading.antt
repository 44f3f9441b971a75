-- What the wires of a machine bring in a step.
use Rattle.std.specs.Prelude.{ℕ, ◌<◌, ◌≤◌, List, Some, None, Option, IfSome, slice_index_or}
use Rattle.cells.specs.Meaning.{Operand}
use Rattle.machine.specs.declared.wiring.Wire.{Wire}

-- the value of a register, or the input element where there is none
abbrev pub register_value : {E : Type 0} → E → List E → E → Option ℕ → E
register_value x row d None = x
register_value x row d (Some k) = slice_index_or row k d

abbrev pub wire_operand : {E : Type 0} → E → List E → E → Wire → Operand E
wire_operand x row d w = (w.source, register_value x row d w.register)

-- a wire in a row of so many registers
pub record WireInRow (long : ℕ) (w : Wire) : Type 0 where
  pub source : w.source ≤ 32
  pub register : IfSome w.register (λ k. k < long)
