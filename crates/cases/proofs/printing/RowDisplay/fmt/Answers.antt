use Rattle.std.proofs.Common.{Ok, Some, refl, ◌∙◌, rules}
use Rattle.std.proofs.lemmas.List.{drop_more}
use Rattle.std.proofs.Output.{displays_on_IsOk_append}
use Rattle.cases.proofs.TextLemmas.{item_written}
use Rattle.cases.proofs.printing.RowDisplay.fmt.Goals as goal

pub loop-item-init : goal.loop-item-init
loop-item-init g c = (Some c.args.self.now.0.now, c.in_ok-write_str.ensures.writes, refl)

pub loop-item-preserved : goal.loop-item-preserved
loop-item-preserved g c =
    let so_far = c.loop-item.invariant in
    (_, displays_on_IsOk_append _ _ _ _ (Ok tt) (Ok tt) so_far.0 _ (λ ok. ok) so_far.1 c.in_ok-write.ensures.writes, item_written g.T.Display.output so_far.0 c.item-item.result _ _ (search (rules, drop_more)) ∙ so_far.2)
