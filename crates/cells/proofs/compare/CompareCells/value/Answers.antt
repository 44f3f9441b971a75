use Rattle.std.proofs.Common.{sym, subst}
use Rattle.cells.specs.Choices.{is_even, Chosen}
use Rattle.cells.proofs.Choosing.{compare_chosen}
use Rattle.cells.proofs.compare.CompareCells.value.Goals as goal

pub returns-clause-chosen : goal.returns-clause-chosen
returns-clause-chosen c =
    λ sourced short.
    subst (λ v. Chosen (is_even c.args.operation) c.args.operands.now v) (sym (c.apply.ensures.value sourced)) (compare_chosen c.args.operation c.args.operands.now short)
