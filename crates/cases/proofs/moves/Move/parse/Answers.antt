use Rattle.std.proofs.Common.{rules, List, ℕ, ℤ, Ok, subst, w32}
use Rattle.std.specs.Str.Parse.{ParsesSigned}
use Rattle.cases.specs.Rows.{IsRow}
use Rattle.cases.proofs.ItemLemmas.{IsRow-weaker}
use Rattle.cases.proofs.moves.Move.parse.Goals as goal

pub returns-in_ok-parse_row-in-Some-default : goal.returns-in_ok-parse_row-in-Some-default
returns-in_ok-parse_row-in-Some-default c =
    let StandsFor : List ℕ → ℤ → Type 0 = λ item shift. ParsesSigned {E = Unit} w32 10 item (Ok shift) in (
      search rules,
      subst (λ text. IsRow StandsFor text c.in_ok-parse_row-in-Some-default.field-0.items) (search rules)
          (IsRow-weaker _ StandsFor (λ item shift says. subst (λ i. StandsFor i shift) says.shows (search rules)) c.in-Some-default.shifts.now c.in_ok-parse_row-in-Some-default.field-0.items c.in_ok-parse_row-in-Some-default.ensures),
    )
