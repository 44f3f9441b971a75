-- What a call answers and leaves, by the first question answered no.
use Rattle.std.proofs.Common.{◌≡◌, is_ok, Some, None, Ok, Err, Option, Result, sym, refl, ap, ◌∙◌, subst}
use Rattle.std.specs.Result.{IsErrAnd, MatchResult}
use Rattle.std.proofs.lemmas.Result.{err_from_is_err_and}
use Rattle.std.proofs.lemmas.Bool.{true≢false, false≢true}
use Rattle.words.specs.declared.faults.Fault.{Fault}
use Rattle.bench.specs.Refusals.{unless, unless_kept}

module _ {X : Type 0} where
  pub unless_err : (o : Option Fault) (x : X) (f : Fault) → Err f ≡ unless o x → o ≡ Some f
  unless_err None x f e = absurd (false≢true (ap is_ok e))
  unless_err (Some g) x f e = ap Some (err_same e)
    where
      err_same : ◌≡◌ {A = Result X Fault} (Err f) (Err g) → g ≡ f
      err_same q = cc

  pub unless_none : (o : Option Fault) (x y : X) → Ok y ≡ unless o x → o ≡ None
  unless_none None x y e = refl
  unless_none (Some g) x y e = absurd (true≢false (ap is_ok e))

  pub kept : (o : Option Fault) (f : Fault) (new old : X) → o ≡ Some f → old ≡ unless_kept o new old
  kept o f new old e = sym (ap (λ q. unless_kept q new old) e)

  pub taken : (o : Option Fault) (new old : X) → o ≡ None → unless_kept o new old ≡ new
  taken o new old e = ap (λ q. unless_kept q new old) e

  -- a `?` hands on the refusal of the question that was answered no
  pub refused : (r : Result X Fault) (o : Option Fault) (x : X) (f : Fault) → IsErrAnd r (λ e. e ≡ f) → o ≡ Some f → r ≡ unless o x
  refused r o x f h e = let q = err_from_is_err_and r h in q.1 ∙ ap Err q.2 ∙ sym (ap (λ p. unless p x) e)

  pub failed : (r : Result X Fault) (P : X → Type 0) (o : Option Fault) (f : Fault) → IsErrAnd r (λ e. e ≡ f) → o ≡ Some f → MatchResult r P (λ e. o ≡ Some e)
  failed r P o f h k = let q = err_from_is_err_and r h in subst (λ s. MatchResult s P (λ e. o ≡ Some e)) (sym q.1) (k ∙ ap Some (sym q.2))
