use Rattle.std.proofs.Common.{rules, Ok, subst}
use Rattle.std.proofs.lemmas.Result.{IfOk-weaker}
use Rattle.std.specs.Str.Parse.{ParsesUnsigned}
use Rattle.cases.proofs.ItemLemmas.{IsRow-weaker}
use Rattle.cases.proofs.designs.parse_words.Goals as goal

pub returns : goal.returns
returns c =
    IfOk-weaker c.parse_row.result _ _ (λ words row. IsRow-weaker _ _ (λ item word says. subst (λ i. ParsesUnsigned {E = Unit {0}} 32 16 i (Ok word)) says.shows (search rules)) c.args.text.now words.items row)
    c.parse_row.ensures
