use Rattle.std.proofs.Common.{◌≡◌, ℕ, sym, ap, ◌∙◌, arith}
use Rattle.std.proofs.lemmas.Bool.Decides.{nat_tests}
use Rattle.words.specs.ProgramKinds.{program_numbered}
use Rattle.words.specs.Refusals.{known_kind}
use Rattle.words.proofs.kinds.ProgramKindTryFromU32.try_from.Goals as goal

-- a kind by its number, where the number is the word's
numbered : (n : ℕ) {m k : ℕ} → m ≡ n → m ≡ k → known_kind (program_numbered n) ≡ known_kind (program_numbered k)
numbered n is read = ap (λ i. known_kind (program_numbered i)) (sym is ∙ read)

pub returns-in-8 : goal.returns-in-8
unfolding program_numbered
returns-in-8 c = numbered 8 c.in-8.is c.field_of.ensures

pub returns-in-9 : goal.returns-in-9
unfolding program_numbered
returns-in-9 c = numbered 9 c.in-9.is c.field_of.ensures

pub returns-in-10 : goal.returns-in-10
unfolding program_numbered
returns-in-10 c = numbered 10 c.in-10.is c.field_of.ensures

pub returns-in-11 : goal.returns-in-11
unfolding program_numbered
returns-in-11 c = numbered 11 c.in-11.is c.field_of.ensures

pub returns-in-12 : goal.returns-in-12
unfolding program_numbered
returns-in-12 c = numbered 12 c.in-12.is c.field_of.ensures

pub returns-in-13 : goal.returns-in-13
unfolding program_numbered
returns-in-13 c = numbered 13 c.in-13.is c.field_of.ensures

pub returns-in_default : goal.returns-in_default
unfolding program_numbered
returns-in_default c = let e = c.field_of.ensures in let h = c.in_default in grind (arith, nat_tests)
