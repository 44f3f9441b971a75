-- A loop that looks for the lowest place at which a question is answered no, and refuses it there.
use Rattle.std.proofs.Common.{◌≡◌, ℕ, ◌+◌, ◌<◌, Bool, true, false, cond, Some, None, Err, Option, Result, sym, ap, ◌∙◌}
use Rattle.std.proofs.lemmas.Bool.{cond-true, cond-false}
use Rattle.words.specs.declared.faults.Fault.{Fault}
use Rattle.bench.specs.First.{first}
use Rattle.bench.specs.Refusals.{unless}
use Rattle.bench.proofs.Searches.{first_more, first_found}

module _ (no : ℕ → Bool) (fault : ℕ → Fault) where
  abbrev fault_in : ℕ → Option Fault
  fault_in k = cond (no k) (Some (fault k)) None

  -- the turn that refuses
  pub refused_at : (n i : ℕ) (f : Fault) → i < n → first fault_in i ≡ None → no i ≡ true → f ≡ fault i → ◌≡◌ {A = Result (Unit {0}) Fault} (Err f) (unless (first fault_in n) tt)
  refused_at n i f l before is same =
      ap Err same ∙ sym (ap (λ o. unless o tt) (first_found fault_in n i (fault i) l before (cond-true (no i) (Some (fault i)) None is)))

  -- a turn that goes on
  pub passed_at : (i : ℕ) → first fault_in i ≡ None → no i ≡ false → first fault_in (i + 1) ≡ None
  passed_at i before is = first_more fault_in i before (cond-false (no i) (Some (fault i)) None is)
