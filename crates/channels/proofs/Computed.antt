-- What the definitions compute on the worked designs.
use Rattle.std.proofs.Common.{◌≡◌, ℕ, ◌<◌, true, [], ◌∷◌, get_or, pos, negsuc, is_some, Some, None, Ok, sym, refl, ap, ◌∙◌, subst, arith, codes}
use Rattle.std.specs.Fmt.{digits}
use Rattle.words.specs.Encoding.{encoded, node_words, feed_words}
use Rattle.words.specs.Formats.{refused_from_in, asked_in}
use Rattle.words.specs.Lines.{line}
use Rattle.words.specs.Questions.{refused, count_of, nodes_in, in_node, after_output, least_source}
use Rattle.words.specs.Kinds.{kind_numbered}
use Rattle.bench.specs.First.{first}
use Rattle.bench.specs.Firing.{has, place_in, listed_after}
use Rattle.bench.specs.Listing.{listed}
use Rattle.bench.specs.Moves.{lag_fault, slow_fault, settle_fault, made_fault, delays_fault, moved}
use Rattle.bench.specs.Programs.{program, in_turn, reach}
use Rattle.bench.specs.Retimings.{at_rest, lag_at, latency, current_delay}
use Rattle.bench.specs.Cycles.{Cycle, AllZero, link}
use Rattle.bench.specs.Refusals.{zero_cycle, wrong_shift, lag_out, delay_out, wrong_factor, too_slow}
use Rattle.bench.specs.Verdicts.{verdict}
use Rattle.machine.specs.Refusals.{simulate_fault, too_long}
use Rattle.channels.specs.Examples.{design_e, words_of_e, program_of_e, text_of_e, loop, words_of_loop, delayed, fir, words_of_fir}
use Rattle.channels.specs.Worked.{settled_e, lagged_fir}

pub e_written : encoded design_e ≡ words_of_e
unfolding encoded node_words feed_words
e_written = refl

pub e_read : refused words_of_e ≡ None
unfolding refused_from_in asked_in count_of nodes_in in_node after_output least_source kind_numbered
e_read = refl

pub e_settles : settle_fault design_e at_rest ≡ None
unfolding settle_fault made_fault delays_fault first moved has place_in listed_after
e_settles = refl

pub e_factor : settled_e.factor ≡ 2
unfolding moved
e_factor = refl

pub e_lags : (lag_at settled_e 0 ≡ 1) × (lag_at settled_e 1 ≡ 0)
unfolding moved first has place_in listed_after
e_lags = (refl, refl)

pub e_systolic : verdict design_e settled_e ≡ Ok tt
unfolding moved first has place_in listed_after
e_systolic = refl

pub e_program : program design_e settled_e ≡ program_of_e
unfolding program in_turn reach moved first has place_in listed_after
e_program = refl

pub e_listed : listed (program design_e settled_e) ≡ text_of_e
e_listed = ap listed e_program

pub e_latency : latency design_e settled_e ≡ 1
unfolding moved first has place_in listed_after
e_latency = refl

pub e_shifts : lag_fault design_e at_rest (pos 0 ∷ pos 1 ∷ []) ≡ Some (delay_out 0 1)
unfolding lag_fault delays_fault first moved
e_shifts = refl

pub e_slow : slow_fault design_e at_rest 64 ≡ None
unfolding slow_fault made_fault delays_fault first moved
e_slow = refl

pub e_slower : slow_fault design_e (moved at_rest 64 []) 2 ≡ Some (too_slow 64 2)
unfolding slow_fault made_fault delays_fault first moved
e_slower = refl

pub e_furthest : lag_fault design_e at_rest (pos 4095 ∷ pos 4095 ∷ []) ≡ None
unfolding lag_fault delays_fault first moved
e_furthest = refl

pub e_further : lag_fault design_e (moved at_rest 1 (pos 4095 ∷ pos 4095 ∷ [])) (pos 1 ∷ pos 1 ∷ []) ≡ Some (lag_out 0)
unfolding lag_fault delays_fault first moved
e_further = refl

pub e_long_shifts : (lag_fault design_e at_rest (pos 4096 ∷ pos 0 ∷ []) ≡ Some (wrong_shift 0)) × (lag_fault design_e at_rest (pos 0 ∷ negsuc 4095 ∷ []) ≡ Some (wrong_shift 1))
unfolding lag_fault first
e_long_shifts = (refl, refl)

pub e_back : lag_fault design_e (moved at_rest 1 (pos 4095 ∷ pos 4095 ∷ [])) (negsuc 4094 ∷ negsuc 4094 ∷ []) ≡ None
unfolding lag_fault delays_fault first moved
e_back = refl

pub e_factors : (slow_fault design_e at_rest 0 ≡ Some (wrong_factor 0)) × (slow_fault design_e at_rest 1 ≡ None) × (slow_fault design_e at_rest 65 ≡ Some (wrong_factor 65))
unfolding slow_fault made_fault delays_fault first moved
e_factors = (refl, refl, refl)

pub e_slow_twice : slow_fault design_e (moved at_rest 13 []) 5 ≡ Some (too_slow 13 5)
unfolding slow_fault made_fault moved
e_slow_twice = refl

pub delayed_slow : (slow_fault (delayed 63) at_rest 64 ≡ None) × (slow_fault (delayed 65) at_rest 63 ≡ None) × (slow_fault (delayed 64) at_rest 64 ≡ Some (delay_out 0 32))
unfolding slow_fault made_fault delays_fault first moved
delayed_slow = (refl, refl, refl)

pub e_times : (simulate_fault design_e.count 3 65536 131072 65536 ≡ None) × (simulate_fault design_e.count 3 65537 131074 65537 ≡ Some (too_long 65537))
unfolding simulate_fault
e_times = (refl, refl)

pub loop_printed : line (zero_cycle 1) ≡ codes "refused 7 design 1 0"
unfolding digits
loop_printed = refl

pub loop_written : encoded loop ≡ words_of_loop
unfolding encoded node_words feed_words
loop_written = refl

pub fir_written : encoded fir ≡ words_of_fir
unfolding encoded node_words feed_words
fir_written = refl

pub fir_lags : lag_fault fir at_rest (pos 3 ∷ pos 2 ∷ pos 1 ∷ pos 0 ∷ []) ≡ None
unfolding lag_fault delays_fault first moved
fir_lags = refl

pub fir_nodes : (current_delay fir lagged_fir 0 1 ≡ Some 1) × (current_delay fir lagged_fir 1 2 ≡ Some 1) × (current_delay fir lagged_fir 2 3 ≡ Some 1)
unfolding moved
fir_nodes = (refl, refl, refl)

pub fir_inputs : (current_delay fir lagged_fir 0 32 ≡ Some 6) × (current_delay fir lagged_fir 1 32 ≡ Some 4) × (current_delay fir lagged_fir 2 32 ≡ Some 2) × (current_delay fir lagged_fir 3 32 ≡ Some 0)
unfolding moved
fir_inputs = (refl, refl, refl, refl)

pub fir_latency : latency fir lagged_fir ≡ 3
unfolding moved
fir_latency = refl

-- the one place of a cycle of one
only : (k : ℕ) → k < 1 → k ≡ 0
only k l = omega arith

pub loop_cycle : Cycle loop (0 ∷ []) × AllZero loop (0 ∷ [])
loop_cycle = (
  record {
    some = omega arith;
    below = λ k l. subst (λ n. get_or (0 ∷ []) n 0 < 1) (sym (only k l)) (omega arith);
    apart = λ k l lk ll e. only k lk ∙ sym (only l ll);
    fed = λ k l. subst (λ n. is_some (link loop (0 ∷ []) n) ≡ true) (sym (only k l)) refl;
  },
  λ k l. subst (λ n. link loop (0 ∷ []) n ≡ Some 0) (sym (only k l)) refl,
)
