-- The worked results, by the definitions that the calls' contracts cite.
use Rattle.std.specs.Prelude.{◌≡◌, ℕ, ◌+◌, ◌<◌, ◌≤◌, List, [], ◌∷◌, map, length, get_or, ℤ, pos, negsuc, ◌+ℤ◌, ◌*ℤ◌, Some, None, Option, Ok, Err, Result, slice_index_or, codes}
use Rattle.std.specs.List.{slice_get}
use Rattle.std.specs.Int.{int_wrap, w32}
use Rattle.words.specs.declared.faults.Fault.{Fault}
use Rattle.words.specs.declared.design.Design.{Design}
use Rattle.words.specs.declared.program_table.ProgramTable.{ProgramTable}
use Rattle.words.specs.Designs.{InRange}
use Rattle.words.specs.Encoding.{encoded}
use Rattle.words.specs.Lines.{line}
use Rattle.words.specs.ProgramEncoding.{encoded_program}
use Rattle.words.specs.ProgramTables.{ProgramInRange}
use Rattle.words.specs.Questions.{refused}
use Rattle.bench.specs.declared.bench.Bench.{Bench}
use Rattle.bench.specs.declared.retiming.Retiming.{Retiming}
use Rattle.bench.specs.Cycles.{Cycle, AllZero}
use Rattle.bench.specs.Listing.{listed}
use Rattle.bench.specs.Moves.{lag_fault, slow_fault, settle_fault, moved, ranks}
use Rattle.bench.specs.Opening.{Opened}
use Rattle.bench.specs.Programs.{program}
use Rattle.bench.specs.Refusals.{zero_cycle, wrong_shift, lag_out, delay_out, wrong_factor, too_slow}
use Rattle.bench.specs.Retimings.{at_rest, lag_at, latency, current_delay}
use Rattle.bench.specs.Verdicts.{verdict}
use Rattle.cells.specs.declared.weights.Weight.{Weight}
use Rattle.cells.specs.Sums.{whole_meaning, whole_blank}
use Rattle.machine.specs.Refusals.{simulate_fault, too_long}
use Rattle.machine.specs.Values.{past, Solves, output}
use Rattle.machine.specs.Arrays.{array_of, Runs, put_out}
use Rattle.machine.specs.Machines.{registers_needed}
use Rattle.channels.specs.declared.events.Event.{Event}
use Rattle.channels.specs.declared.events.Event.TheVariants.{Start, Step}
use Rattle.channels.specs.Events.{State, Ran}
use Rattle.channels.specs.Examples.{design_e, words_of_e, program_of_e, text_of_e, loop, words_of_loop, delayed, fir, words_of_fir}

-- E, settled
abbrev pub settled_e : Retiming
settled_e = moved at_rest 2 (ranks design_e at_rest)

-- the FIR filter lagged by 3, 2, 1, 0
abbrev pub lagged_fir : Retiming
lagged_fir = moved at_rest 1 (pos 3 ∷ pos 2 ∷ pos 1 ∷ pos 0 ∷ [])

-- whole cells of which operation 0 weighs source 0 by 2 and operation 1 the input by 3
pub record CellsOfE (table : List (Weight ℤ)) : Type 0 where
  pub first : get_or table 0 whole_blank ≡ record { factor = pos 2; source = 0 }
  pub second : get_or table 1 whole_blank ≡ record { factor = pos 3; source = 32 }

-- the outputs of E at the first three times
pub record Outputs (rest : ℕ → ℤ) (v : ℕ → ℕ → ℤ) (first second third : ℤ) : Type 0 where
  pub at_0 : output design_e rest v 0 ≡ first
  pub at_1 : output design_e rest v 1 ≡ second
  pub at_2 : output design_e rest v 2 ≡ third

-- two channels, and what the machine of E puts out for them
abbrev pub inputs_of_e : List ℤ
inputs_of_e = pos 1 ∷ pos 5 ∷ pos 1 ∷ pos 0 ∷ pos 1 ∷ pos 0 ∷ pos 0 ∷ []

abbrev pub steps_of_e : List ℤ
steps_of_e = pos 0 ∷ pos 3 ∷ pos 15 ∷ pos 9 ∷ pos 30 ∷ pos 21 ∷ pos 60 ∷ []

-- an event is a start from these rests
abbrev pub StartsFrom : List ℤ → Event ℤ → Type 0
StartsFrom rests (Start rest) = rest.now ≡ rests
StartsFrom rests (Step input) = ⊥

pub record Worked : Type 0 where
  -- the three are designs
  pub in_range : InRange design_e × InRange loop × InRange fir
  -- E's words are read, and it writes back as itself
  pub e_read : refused words_of_e ≡ None
  pub e_written : encoded design_e ≡ words_of_e
  -- it is v(0,t) = 2 × v(0,t−1) + v(1,t) and v(1,t) = 3 × x(t), wrapped to 32 bits
  pub e_first : (table : List (Weight ℤ)) → CellsOfE table → (rest x : ℕ → ℤ) (v : ℕ → ℕ → ℤ) → Solves design_e (whole_meaning table) rest x v → (t : ℕ) → v 0 t ≡ int_wrap w32 (past (v 0) (rest 0) t 1 *ℤ pos 2 +ℤ v 1 t)
  pub e_second : (table : List (Weight ℤ)) → CellsOfE table → (rest x : ℕ → ℤ) (v : ℕ → ℕ → ℤ) → Solves design_e (whole_meaning table) rest x v → (t : ℕ) → v 1 t ≡ int_wrap w32 (x t *ℤ pos 3)
  -- from rests of 0, inputs 1, 1, 1 give 3, 9, 21
  pub e_outputs : (table : List (Weight ℤ)) → CellsOfE table → (rest x : ℕ → ℤ) (v : ℕ → ℕ → ℤ) → Solves design_e (whole_meaning table) rest x v → rest 0 ≡ pos 0 →
      ((t : ℕ) → t < 3 → x t ≡ pos 1) → Outputs rest v (pos 3) (pos 9) (pos 21)
  -- it settles to K = 2, lags 1 and 0, L = 1, systolic
  pub e_settles : settle_fault design_e at_rest ≡ None
  pub e_factor : settled_e.factor ≡ 2
  pub e_lags : (lag_at settled_e 0 ≡ 1) × (lag_at settled_e 1 ≡ 0)
  pub e_latency : latency design_e settled_e ≡ 1
  pub e_systolic : verdict design_e settled_e ≡ Ok tt
  -- and its program is these words
  pub e_program : program design_e settled_e ≡ program_of_e
  -- which are listed as eleven lines
  pub e_listed : listed (program design_e settled_e) ≡ text_of_e
  -- its array, from rests of 0, on 1, 5, 1, 0, 1, 0, 0 puts out 0, 3, 15, 9, 30, 21, 60
  pub e_array : (table : List (Weight ℤ)) → CellsOfE table → (rest x : ℕ → ℤ) (u : ℕ → ℕ → ℤ) → Runs (array_of design_e settled_e) (whole_meaning table) rest x u → rest 0 ≡ pos 0 →
      ((τ : ℕ) → τ < 7 → x τ ≡ slice_index_or inputs_of_e τ (pos 0)) → (τ : ℕ) → τ < 7 → put_out (array_of design_e settled_e) rest u τ ≡ slice_index_or steps_of_e τ (pos 0)
  -- and a machine that has just loaded this program and is started from rests of 0, with enough registers, answers steps on 1, 5, 1, 0, 1, 0, 0 by 0, 3,
  -- 15, 9, 30, 21, 60
  pub e_steps : (table : List (Weight ℤ)) → CellsOfE table → (t : ProgramTable) → ProgramInRange t → encoded_program t ≡ program_of_e →
      (first last : State ℤ) → first.cycle ≡ 0 → registers_needed t ≤ length first.row → (start : Event ℤ) → StartsFrom (pos 0 ∷ pos 0 ∷ pos 0 ∷ []) start →
      (answers : List (Option ℤ)) → Ran t (whole_meaning table) first (start ∷ map (λ input. Step input) inputs_of_e) answers last →
      (k : ℕ) → k < 7 → slice_get answers (k + 1) ≡ Some (Some (slice_index_or steps_of_e k (pos 0)))
  -- on E, shifts 0, 1 get 11 at 0, 1
  pub e_shifts : lag_fault design_e at_rest (pos 0 ∷ pos 1 ∷ []) ≡ Some (delay_out 0 1)
  -- slow by 64 passes, and slow by 2 then gets 13
  pub e_slow : slow_fault design_e at_rest 64 ≡ None
  pub e_slower : slow_fault design_e (moved at_rest 64 []) 2 ≡ Some (too_slow 64 2)
  -- lags go up to 4,095: shifts 4,095, 4,095 pass, and shifts 1, 1 then get 10 at 0
  pub e_furthest : lag_fault design_e at_rest (pos 4095 ∷ pos 4095 ∷ []) ≡ None
  pub e_further : lag_fault design_e (moved at_rest 1 (pos 4095 ∷ pos 4095 ∷ [])) (pos 1 ∷ pos 1 ∷ []) ≡ Some (lag_out 0)
  -- shifts go from −4,095 to 4,095: 4,096 and −4,096 get 9, and −4,095 takes a lag of 4,095 back
  pub e_long_shifts : (lag_fault design_e at_rest (pos 4096 ∷ pos 0 ∷ []) ≡ Some (wrong_shift 0)) × (lag_fault design_e at_rest (pos 0 ∷ negsuc 4095 ∷ []) ≡ Some (wrong_shift 1))
  pub e_back : lag_fault design_e (moved at_rest 1 (pos 4095 ∷ pos 4095 ∷ [])) (negsuc 4094 ∷ negsuc 4094 ∷ []) ≡ None
  -- a factor goes from 1 to 64: 0 and 65 get 12, and 1 passes; and K up to 64: slow by 13 and then by 5 gets 13
  pub e_factors : (slow_fault design_e at_rest 0 ≡ Some (wrong_factor 0)) × (slow_fault design_e at_rest 1 ≡ None) × (slow_fault design_e at_rest 65 ≡ Some (wrong_factor 65))
  pub e_slow_twice : slow_fault design_e (moved at_rest 13 []) 5 ≡ Some (too_slow 13 5)
  -- current delays go up to 4,095: a feed of delay 63 may be slowed by 64, one of delay 65 by 63, and one of delay 64 by 64 gets 11
  pub delayed_in_range : InRange (delayed 63) × InRange (delayed 64) × InRange (delayed 65)
  pub delayed_slow : (slow_fault (delayed 63) at_rest 64 ≡ None) × (slow_fault (delayed 65) at_rest 63 ≡ None) × (slow_fault (delayed 64) at_rest 64 ≡ Some (delay_out 0 32))
  -- 65,536 times of E are simulated, and 65,537 get 20
  pub e_times : (simulate_fault design_e.count 3 65536 131072 65536 ≡ None) × (simulate_fault design_e.count 3 65537 131074 65537 ≡ Some (too_long 65537))
  -- the node that hears itself at delay 0 is a design, with that cycle
  pub loop_written : encoded loop ≡ words_of_loop
  pub loop_cycle : Cycle loop (0 ∷ []) × AllZero loop (0 ∷ [])
  -- and is refused by 7 with length 1
  pub loop_refused : (d : Design) (before after : List ℕ) (r : Result Bench Fault) → d.graph ≡ loop → 1 ≤ length before → Opened d before after r → r ≡ Err (zero_cycle 1)
  -- which is printed so
  pub loop_printed : line (zero_cycle 1) ≡ codes "refused 7 design 1 0"
  -- the FIR filter lagged 3, 2, 1, 0
  pub fir_written : encoded fir ≡ words_of_fir
  pub fir_lags : lag_fault fir at_rest (pos 3 ∷ pos 2 ∷ pos 1 ∷ pos 0 ∷ []) ≡ None
  pub fir_nodes : (current_delay fir lagged_fir 0 1 ≡ Some 1) × (current_delay fir lagged_fir 1 2 ≡ Some 1) × (current_delay fir lagged_fir 2 3 ≡ Some 1)
  pub fir_inputs : (current_delay fir lagged_fir 0 32 ≡ Some 6) × (current_delay fir lagged_fir 1 32 ≡ Some 4) × (current_delay fir lagged_fir 2 32 ≡ Some 2) × (current_delay fir lagged_fir 3 32 ≡ Some 0)
  pub fir_latency : latency fir lagged_fir ≡ 3
