-- What a start answers and leaves, from its equations.
use Rattle.std.proofs.Common.{◌≡◌, ℕ, ◌+◌, ◌≤◌, Bool, true, false, cond, eqb, leb, List, length, drop, is_some, Some, None, Option, Result, sym, refl, ap, ◌∙◌, subst, arith}
use Rattle.std.proofs.lemmas.Bool.{true≢false, eqb-true, leb-true}
use Rattle.std.proofs.lemmas.List.{length-append, length-drop, drop_at}
use Rattle.words.specs.declared.faults.Fault.{Fault}
use Rattle.words.specs.declared.program_table.ProgramTable.{ProgramTable}
use Rattle.words.specs.ProgramTables.{ProgramInRange}
use Rattle.bench.specs.Buffers.{overlaid}
use Rattle.bench.specs.Refusals.{unless, unless_kept}
use Rattle.machine.specs.Machines.{registers_needed, Started, StartAnswers}
use Rattle.machine.specs.Refusals.{start_fault}
use Rattle.machine.specs.Starting.{registers_at_rest, start_refusal}
use Rattle.machine.proofs.Resting.{registers_long, at_rest}

-- a test that refuses, and nothing is refused
passes : (b : Bool) (o : Option Fault) (f : Fault) → ◌≡◌ {A = Option Fault} (cond b o (Some f)) None → (b ≡ true) × (o ≡ None)
passes true o f h = (refl, h)
passes false o f h = absurd (true≢false (ap is_some h))

module _ {E : Type 0} (t : ProgramTable) (range : ProgramInRange t) (rest before : List E) where
  -- what is asked of the lengths
  asked : start_refusal t rest before ≡ None → (length rest ≡ t.count + 1) × (registers_needed t ≤ length before)
  unfolding start_fault
  asked h =
      let first = passes (eqb (length rest) (t.count + 1)) _ _ h in
      let second = passes (leb (registers_needed t) (length before)) None _ first.1 in
      (eqb-true (length rest) (t.count + 1) first.0, leb-true (registers_needed t) (length before) second.0)

  module _ (long : length rest ≡ t.count + 1) (room : registers_needed t ≤ length before) where
    same : length (registers_at_rest t rest) ≡ registers_needed t
    same = omega (arith, registers_long t range rest long)

    started : Started t rest before (overlaid before 0 (registers_at_rest t rest))
    started =
        record {
          filled = at_rest t range rest (drop (0 + length (registers_at_rest t rest)) before) long;
          kept =
              record {
                long = omega (arith, same, length-append (registers_at_rest t rest) (drop (0 + length (registers_at_rest t rest)) before), length-drop (0 + length (registers_at_rest t rest)) before);
                past = drop_at (registers_at_rest t rest) (drop (0 + length (registers_at_rest t rest)) before) (registers_needed t) same
                    ∙ ap (λ n. drop n before) {x = 0 + length (registers_at_rest t rest)} {y = registers_needed t} (omega (arith, same));
              };
        }

  -- where its answer, the registers and the cycle are as its questions say
  pub start_answers : (after : List E) (cycle next : ℕ) (r : Result (Unit {0}) Fault) → r ≡ unless (start_refusal t rest before) tt →
      after ≡ unless_kept (start_refusal t rest before) (overlaid before 0 (registers_at_rest t rest)) before → next ≡ unless_kept (start_refusal t rest before) 0 cycle →
      StartAnswers t rest before after cycle next r
  start_answers after cycle next r answer registers turn =
      record {
        refuses = λ f e. (answer ∙ ap (λ o. unless o tt) e, registers ∙ ap (λ o. unless_kept o (overlaid before 0 (registers_at_rest t rest)) before) e, turn ∙ ap (λ o. unless_kept o 0 cycle) e);
        starts = λ e.
            let lengths = asked e in (
              answer ∙ ap (λ o. unless o tt) e,
              subst (Started t rest before) (sym (registers ∙ ap (λ o. unless_kept o (overlaid before 0 (registers_at_rest t rest)) before) e)) (started lengths.0 lengths.1),
              turn ∙ ap (λ o. unless_kept o 0 cycle) e,
            );
      }
