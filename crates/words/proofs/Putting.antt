-- A question's refusal, with the index that is put to it.
use Rattle.std.proofs.Common.{◌≡◌, ℕ, Some, None, Ok, Err, Option, Result, sym, refl, ap, MatchResult, IsErrAnd}
use Rattle.std.specs.Option.{ok_or}
use Rattle.words.specs.declared.faults.Fault.{Fault}
use Rattle.words.specs.declared.faults.WordsQuestion.{WordsQuestion}
use Rattle.words.specs.Refusals.{words_fault}

-- a question's refusal at an index
abbrev pub at_index : {A : Type 0} → ℕ → Result A WordsQuestion → Result A Fault
at_index i (Ok x) = Ok x
at_index i (Err question) = Err (words_fault question i)

-- what `map_err` makes of an answer, where its closure puts the index to the question
pub put : {A : Type 0} (i : ℕ) (r : Result A WordsQuestion) (s : Result A Fault) {P : WordsQuestion → Fault → Type 0} →
    ((q : WordsQuestion) (f : Fault) → P q f → f ≡ words_fault q i) → MatchResult r (λ x. s ≡ Ok x) (λ q. IsErrAnd s (P q)) → s ≡ at_index i r
put i (Ok x) s gives h = h
put i (Err q) (Ok x) gives h = absurd h
put i (Err q) (Err f) gives h = ap Err (gives q f h)

pub put_ok : {A : Type 0} (i : ℕ) (r : Result A WordsQuestion) (x : A) → at_index i r ≡ Ok x → r ≡ Ok x
put_ok i (Ok y) x e = let same : y ≡ x = cc in ap Ok same
put_ok i (Err q) x e = cc

pub put_err : {A : Type 0} (i : ℕ) (r : Result A WordsQuestion) (f : Fault) → at_index i r ≡ Err f → (q : WordsQuestion) × (r ≡ Err q) × (f ≡ words_fault q i)
put_err i (Ok y) f e = cc
put_err i (Err q) f e = let same : words_fault q i ≡ f = cc in (q, refl, sym same)

-- what was refused, where `ok_or` refuses
pub ok_or_err : {A E : Type 0} (o : Option A) (e q : E) → ok_or o e ≡ Err q → (o ≡ None) × (q ≡ e)
ok_or_err None e q h = let same : e ≡ q = cc in (refl, sym same)
ok_or_err (Some y) e q h = cc
