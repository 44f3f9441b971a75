use Rattle.std.proofs.Common.{◌≡◌, ℕ, List, drop, Option, Some, Ok}
use Rattle.std.specs.Fmt.{DisplaysOnOk, ◌++?◌}
use Rattle.cases.specs.Printing.{after_spaces}
use Rattle.cases.proofs.printing.RowDisplay.fmt.Given as goal

-- what is written, and the text of the items to come, are the whole row's
abbrev pub invariant-loop-item : goal.invariant-loop-item
invariant-loop-item g l =
    (done : Option (List ℕ)) × DisplaysOnOk g.W.Write.write_str_gives l.fn.f (Ok tt) done l.f
    × (done ++? after_spaces g.T.Display.output (drop l.item-index l.fn.self.1.now)
    ≡ Some l.fn.self.0.now ++? after_spaces g.T.Display.output l.fn.self.1.now)
