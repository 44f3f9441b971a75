use Rattle.std.proofs.Common.{refl, sym, ap, ◌∙◌}
use Rattle.std.proofs.lemmas.Fn.{says_at}
use Rattle.std.specs.Str.Iter.{split_whitespace_rest}
use Rattle.cases.proofs.ItemLemmas.{reads_next, reads_all}
use Rattle.cases.proofs.rows.parse_row.Goals as goal

-- nothing is read yet, and the whole text is left
pub loop-item-init : goal.loop-item-init
loop-item-init g c more row =
    rw (c.new-row.ensures.items, sym (ap split_whitespace_rest c.into_iter-item-iterator.ensures.into_iter_gives ∙ c.split_whitespace-item-items.ensures.rest)) row

pub loop-item-preserved : goal.loop-item-preserved
loop-item-preserved g c =
    let read = says_at g.F.Fn c.in_ok-parse.ensures refl in
    rw (c.in_ok-push.ensures.items)
    (reads_next _ _ c.loop-item.item-iterator c.next.new.self _ c.loop-item.invariant c.in-Some.item c.in_ok-parse.field-0 c.in-Some.ensures.steps read)

pub returns : goal.returns
returns g c = reads_all _ _ c.loop-item.item-iterator c.next.new.self _ c.loop-item.invariant c.in-None.ensures.steps
