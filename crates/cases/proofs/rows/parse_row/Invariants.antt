use Rattle.std.proofs.Common.{Ok}
use Rattle.std.specs.Fn.{FnReturnsAt}
use Rattle.std.specs.Str.Iter.{split_whitespace_rest}
use Rattle.cases.proofs.ItemLemmas.{ReadsSoFar}
use Rattle.cases.proofs.rows.parse_row.Given as goal

abbrev pub invariant-loop-item : goal.invariant-loop-item
invariant-loop-item g l = ReadsSoFar (λ item value. FnReturnsAt g.F.Fn l.parse item (Ok value)) l.text (split_whitespace_rest l.item-iterator) l.row.items
