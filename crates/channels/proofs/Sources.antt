-- The source of design E.
use Rattle.std.proofs.Common.{◌≡◌, ℕ, ◌<◌, List, get_or, ℤ, pos, ◌+ℤ◌, ◌*ℤ◌, refl, ap, ◌∙◌, arith, w32}
use native.Mathlib.Nat.{sub-zero}
use lib.IntN.{+ℤ_idl}
use Rattle.std.specs.Int.{int_wrap}
use Rattle.cells.specs.declared.weights.Weight.{Weight}
use Rattle.cells.specs.Meaning.{Operand, applied}
use Rattle.cells.specs.Sums.{whole_meaning, whole_blank, exact}
use Rattle.cells.proofs.Wrapping.{wraps_once}
use Rattle.machine.specs.Values.{past, operands, Solves}
use Rattle.bench.specs.Tables.{taps_to}
use Rattle.machine.proofs.Histories.{past_at}
use Rattle.channels.specs.Examples.{design_e}
use Rattle.channels.specs.Worked.{CellsOfE, Outputs}

-- what is heard at delay 0 is the value itself
pub now : (f : ℕ → ℤ) (rest : ℤ) (t : ℕ) → past f rest t 0 ≡ f t
now f rest t = past_at f rest t 0 (omega arith) ∙ ap f (sub-zero t)

-- an operation of E is the exact sum, wrapped once, with its own weight
pub weighed : (table : List (Weight ℤ)) (o : ℕ) (weight : Weight ℤ) (xs : List (Operand ℤ)) → get_or table o whole_blank ≡ weight → applied (whole_meaning table) o xs ≡ int_wrap w32 (exact weight xs)
weighed table o weight xs is = wraps_once table o xs ∙ ap (λ (t : Weight ℤ). int_wrap w32 (exact t xs)) is

module _ (table : List (Weight ℤ)) (cells : CellsOfE table) (rest x : ℕ → ℤ) (v : ℕ → ℕ → ℤ) (is : Solves design_e (whole_meaning table) rest x v) where
  pub e_first : (t : ℕ) → v 0 t ≡ int_wrap w32 (past (v 0) (rest 0) t 1 *ℤ pos 2 +ℤ v 1 t)
  unfolding taps_to
  e_first t =
      is 0 t (omega arith) ∙ weighed table 0 (record { factor = pos 2; source = 0 }) (operands design_e rest v x 0 t) cells.first
      ∙ ap (λ z. int_wrap w32 (z +ℤ past (v 1) (rest 1) t 0)) (+ℤ_idl (past (v 0) (rest 0) t 1 *ℤ pos 2))
      ∙ ap (λ z. int_wrap w32 (past (v 0) (rest 0) t 1 *ℤ pos 2 +ℤ z)) (now (v 1) (rest 1) t)

  pub e_second : (t : ℕ) → v 1 t ≡ int_wrap w32 (x t *ℤ pos 3)
  unfolding taps_to
  e_second t =
      is 1 t (omega arith) ∙ weighed table 1 (record { factor = pos 3; source = 32 }) (operands design_e rest v x 1 t) cells.second
      ∙ ap (int_wrap w32) (+ℤ_idl (past x (rest 32) t 0 *ℤ pos 3)) ∙ ap (λ z. int_wrap w32 (z *ℤ pos 3)) (now x (rest 32) t)

  module _ (at_rest : rest 0 ≡ pos 0) (ones : (t : ℕ) → t < 3 → x t ≡ pos 1) where
    threes : (t : ℕ) → t < 3 → v 1 t ≡ pos 3
    unfolding int_wrap
    threes t l = e_second t ∙ ap (λ z. int_wrap w32 (z *ℤ pos 3)) (ones t l)

    -- one time more
    onward : (t : ℕ) (before after : ℤ) → t < 3 → past (v 0) (rest 0) t 1 ≡ before → int_wrap w32 (before *ℤ pos 2 +ℤ pos 3) ≡ after → v 0 t ≡ after
    onward t before after l past_is sum =
        e_first t ∙ ap (λ z. int_wrap w32 (z *ℤ pos 2 +ℤ v 1 t)) past_is ∙ ap (λ z. int_wrap w32 (before *ℤ pos 2 +ℤ z)) (threes t l) ∙ sum

    pub e_outputs : Outputs rest v (pos 3) (pos 9) (pos 21)
    unfolding int_wrap
    e_outputs =
        let first : v 0 0 ≡ pos 3 = onward 0 (pos 0) (pos 3) (omega arith) at_rest refl in
        let second : v 0 1 ≡ pos 9 = onward 1 (pos 3) (pos 9) (omega arith) first refl in
        let third : v 0 2 ≡ pos 21 = onward 2 (pos 9) (pos 21) (omega arith) second refl in
        record { at_0 = first; at_1 = second; at_2 = third }
