use Rattle.std.proofs.Common.{◌∙◌}
use Rattle.cells.proofs.Presence.{bubbles}
use Rattle.cells.proofs.bubble.Bubble.value.Goals as goal

pub returns-clause-bubbled : goal.returns-clause-bubbled
returns-clause-bubbled g c = λ s. c.apply.ensures.value s ∙ bubbles (g.L.CellLibrary.meaning c.args.self.now.below) c.args.operation c.args.operands.now
