-- The cells that design E is worked with.
use Rattle.std.specs.Prelude.{List, ℕ, ℤ, pos, replicate, set}
use Rattle.cells.specs.declared.weights.Weight.{Weight}

abbrev pub weight : ℕ → ℕ → Weight ℤ
weight factor source = record { factor = pos factor; source = source }

-- operation 0 weighs source 0 by 2, operation 1 the input by 3, and all others nothing: no source has the number 255
abbrev pub weights_of_e : List (Weight ℤ)
weights_of_e = set (set (replicate 256 (weight 1 255)) 0 (weight 2 0)) 1 (weight 3 32)
