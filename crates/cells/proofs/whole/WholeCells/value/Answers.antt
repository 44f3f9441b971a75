use Rattle.std.proofs.Common.{◌∙◌, w32, SFits, rules}
use Rattle.std.proofs.lemmas.Int.{to_z-of_z}
use Rattle.cells.proofs.Wrapping.{wraps_once}
use Rattle.cells.proofs.whole.WholeCells.value.Goals as goal

pub returns-clause-exact : goal.returns-clause-exact
returns-clause-exact c =
    let fits : SFits w32 c.apply.result = search rules in
    λ s. to_z-of_z w32 c.apply.result fits ∙ c.apply.ensures.value s ∙ wraps_once c.args.self.now.weights.table c.args.operation c.args.operands.now
