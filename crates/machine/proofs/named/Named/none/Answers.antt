use Rattle.std.proofs.Common.{refl, ap, sym, ◌∙◌}
use Rattle.bench.specs.Firing.{has}
use Rattle.machine.proofs.Naming.{marks_none, cells_none, earlier_none}
use Rattle.machine.proofs.named.Named.none.Goals as goal

pub returns : goal.returns
returns c = record { table = refl; all = λ j. marks_none 32 j ∙ ap (λ ns. has ns j) (sym cells_none); earlier = λ j. marks_none 32 j ∙ ap (λ ns. has ns j) (sym earlier_none) }
