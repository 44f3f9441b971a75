-- The array of design E, settled, for seven cycles.
use Rattle.std.proofs.Common.{◌≡◌, ℕ, zero, suc, ◌-◌, ◌<◌, ◌≤◌, List, [], ◌∷◌, map, get_or, ℤ, pos, ◌+ℤ◌, ◌*ℤ◌, refl, ap, ◌∙◌, arith, w32}
use lib.IntN.{+ℤ_idl}
use Rattle.std.specs.Int.{int_wrap}
use Rattle.words.specs.Designs.{sources}
use Rattle.bench.specs.First.{first}
use Rattle.bench.specs.Firing.{has, place_in, listed_after}
use Rattle.bench.specs.Moves.{moved}
use Rattle.bench.specs.Retimings.{current_delay}
use Rattle.cells.specs.declared.weights.Weight.{Weight}
use Rattle.cells.specs.Meaning.{applied}
use Rattle.cells.specs.Sums.{whole_meaning}
use Rattle.words.specs.declared.program_table.Tap.{Tap}
use Rattle.machine.specs.Values.{past, heard, operand}
use Rattle.bench.specs.Tables.{taps_to}
use Rattle.machine.specs.Arrays.{array_of, Runs, put_out}
use Rattle.machine.proofs.Histories.{past_at}
use Rattle.channels.specs.Examples.{design_e}
use Rattle.channels.specs.Worked.{settled_e, CellsOfE, inputs_of_e, steps_of_e}
use Rattle.channels.proofs.Computed.{e_lags}
use Rattle.channels.proofs.Sources.{now, weighed}

tap : ℕ → ℕ → Tap
tap source delay = record { source = source; delay = delay }

first_taps : taps_to (current_delay design_e settled_e 0) sources ≡ tap 0 2 ∷ tap 1 1 ∷ []
unfolding tap taps_to moved first has place_in listed_after
first_taps = refl

second_taps : taps_to (current_delay design_e settled_e 1) sources ≡ tap 32 0 ∷ []
unfolding tap taps_to moved first has place_in listed_after
second_taps = refl

module _ (table : List (Weight ℤ)) (cells : CellsOfE table) (rest x : ℕ → ℤ) (u : ℕ → ℕ → ℤ) (runs : Runs (array_of design_e settled_e) (whole_meaning table) rest x u) where
  second_cell : (τ : ℕ) → u 1 τ ≡ int_wrap w32 (x τ *ℤ pos 3)
  unfolding tap
  second_cell τ =
      runs.computes 1 τ (omega arith) (omega (arith, e_lags.1))
      ∙ ap (λ ts. applied (whole_meaning table) 1 (map (operand (heard rest u x τ)) ts)) second_taps
      ∙ weighed table 1 (record { factor = pos 3; source = 32 }) (map (operand (heard rest u x τ)) (tap 32 0 ∷ [])) cells.second
      ∙ ap (int_wrap w32) (+ℤ_idl (past x (rest 32) τ 0 *ℤ pos 3)) ∙ ap (λ z. int_wrap w32 (z *ℤ pos 3)) (now x (rest 32) τ)

  first_cell : (τ : ℕ) → 1 ≤ τ → u 0 τ ≡ int_wrap w32 (past (u 0) (rest 0) τ 2 *ℤ pos 2 +ℤ past (u 1) (rest 1) τ 1)
  unfolding tap
  first_cell τ l =
      runs.computes 0 τ (omega arith) (omega (arith, e_lags.0))
      ∙ ap (λ ts. applied (whole_meaning table) 0 (map (operand (heard rest u x τ)) ts)) first_taps
      ∙ weighed table 0 (record { factor = pos 2; source = 0 }) (map (operand (heard rest u x τ)) (tap 0 2 ∷ tap 1 1 ∷ [])) cells.first
      ∙ ap (λ z. int_wrap w32 (z +ℤ past (u 1) (rest 1) τ 1)) (+ℤ_idl (past (u 0) (rest 0) τ 2 *ℤ pos 2))

  module _ (at_rest : rest 0 ≡ pos 0) (inputs : (τ : ℕ) → τ < 7 → x τ ≡ get_or inputs_of_e τ (pos 0)) where
    at_0 : u 0 0 ≡ pos 0
    at_0 = runs.holds 0 0 (omega arith) (omega (arith, e_lags.0)) ∙ at_rest

    -- the value at a cycle, from the one two cycles before and the input one before
    step : (τ : ℕ) (older fed out : ℤ) → τ < 7 → past (u 0) (rest 0) (suc τ) 2 ≡ older → int_wrap w32 (get_or inputs_of_e τ (pos 0) *ℤ pos 3) ≡ fed → int_wrap w32 (older *ℤ pos 2 +ℤ fed) ≡ out → u 0 (suc τ) ≡ out
    step τ older fed out l before product sum =
        let back : suc τ - 1 ≡ τ = omega arith in
        let heard-of-1 : past (u 1) (rest 1) (suc τ) 1 ≡ fed =
        past_at (u 1) (rest 1) (suc τ) 1 (omega arith) ∙ ap (u 1) back ∙ second_cell τ ∙ ap (λ z. int_wrap w32 (z *ℤ pos 3)) (inputs τ l) ∙ product in
        first_cell (suc τ) (omega arith) ∙ ap (λ z. int_wrap w32 (z *ℤ pos 2 +ℤ past (u 1) (rest 1) (suc τ) 1)) before ∙ ap (λ z. int_wrap w32 (older *ℤ pos 2 +ℤ z)) heard-of-1 ∙ sum

    at_1 : u 0 1 ≡ pos 3
    unfolding int_wrap
    at_1 = step 0 (pos 0) (pos 3) (pos 3) (omega arith) at_rest refl refl

    at_2 : u 0 2 ≡ pos 15
    unfolding int_wrap
    at_2 = step 1 (pos 0) (pos 15) (pos 15) (omega arith) at_0 refl refl

    at_3 : u 0 3 ≡ pos 9
    unfolding int_wrap
    at_3 = step 2 (pos 3) (pos 3) (pos 9) (omega arith) at_1 refl refl

    at_4 : u 0 4 ≡ pos 30
    unfolding int_wrap
    at_4 = step 3 (pos 15) (pos 0) (pos 30) (omega arith) at_2 refl refl

    at_5 : u 0 5 ≡ pos 21
    unfolding int_wrap
    at_5 = step 4 (pos 9) (pos 3) (pos 21) (omega arith) at_3 refl refl

    at_6 : u 0 6 ≡ pos 60
    unfolding int_wrap
    at_6 = step 5 (pos 30) (pos 0) (pos 60) (omega arith) at_4 refl refl

    pub e_puts_out : (τ : ℕ) → τ < 7 → put_out (array_of design_e settled_e) rest u τ ≡ get_or steps_of_e τ (pos 0)
    unfolding moved
    e_puts_out zero l = at_0
    e_puts_out (suc zero) l = at_1
    e_puts_out (suc (suc zero)) l = at_2
    e_puts_out (suc (suc (suc zero))) l = at_3
    e_puts_out (suc (suc (suc (suc zero)))) l = at_4
    e_puts_out (suc (suc (suc (suc (suc zero))))) l = at_5
    e_puts_out (suc (suc (suc (suc (suc (suc zero)))))) l = at_6
    e_puts_out (suc (suc (suc (suc (suc (suc (suc τ))))))) l = absurd (omega arith)
