use Rattle.std.proofs.Common.{◌≡◌, ℕ, sym, ap, ◌∙◌, arith}
use Rattle.std.proofs.lemmas.Bool.Decides.{nat_tests}
use Rattle.words.specs.Kinds.{kind_numbered, known}
use Rattle.words.proofs.kinds.KindTryFromU32.try_from.Goals as goal

-- a kind by its number, where the number is the word's
numbered : (n : ℕ) {m k : ℕ} → m ≡ n → m ≡ k → known (kind_numbered n) ≡ known (kind_numbered k)
numbered n is read = ap (λ i. known (kind_numbered i)) (sym is ∙ read)

pub returns-in-1 : goal.returns-in-1
unfolding kind_numbered
returns-in-1 c = numbered 1 c.in-1.is c.field_of.ensures

pub returns-in-2 : goal.returns-in-2
unfolding kind_numbered
returns-in-2 c = numbered 2 c.in-2.is c.field_of.ensures

pub returns-in-3 : goal.returns-in-3
unfolding kind_numbered
returns-in-3 c = numbered 3 c.in-3.is c.field_of.ensures

pub returns-in-4 : goal.returns-in-4
unfolding kind_numbered
returns-in-4 c = numbered 4 c.in-4.is c.field_of.ensures

pub returns-in-5 : goal.returns-in-5
unfolding kind_numbered
returns-in-5 c = numbered 5 c.in-5.is c.field_of.ensures

pub returns-in_default : goal.returns-in_default
unfolding kind_numbered
returns-in_default c = let e = c.field_of.ensures in let h = c.in_default in grind (arith, nat_tests)
