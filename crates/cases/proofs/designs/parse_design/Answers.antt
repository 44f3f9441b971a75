use Rattle.std.proofs.Common.{subst, sym, ◌∙◌}
use Rattle.std.proofs.lemmas.Result.{IfOk-at_ok, IfOk-weaker}
use Rattle.cases.specs.Designs.{Spells}
use Rattle.cases.proofs.ItemLemmas.{words_of_design}
use Rattle.cases.proofs.designs.parse_design.Goals as goal

pub returns : goal.returns
returns c =
    let spelled = IfOk-at_ok _ c.in_ok-words.was c.parse_words.ensures in
    IfOk-weaker c.context.result _ _ (λ design same. subst (Spells c.args.text.now) (sym c.deref.ensures.value ∙ same) spelled)
    (words_of_design c.deref.result.now c.read_design.result c.ok.result c.context.result _ c.read_design.ensures.reads c.ok.ensures.value c.context.ensures)
