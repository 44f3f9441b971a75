-- The lowest place that has an answer.
use Rattle.std.specs.Prelude.{ℕ, zero, suc, None, Option}
use Rattle.std.specs.Option.{option_or}

-- the answer of p at the lowest index below n that has one
unfoldable pub first : {E : Type 0} → (ℕ → Option E) → ℕ → Option E
first p zero = None
first p (suc n) = option_or (first p n) (p n)
