use Rattle.std.proofs.Common.{◌≡◌, take}
use Rattle.cells.specs.Meaning.{gathered, Sourced}
use Rattle.cells.proofs.apply.apply.Given as goal

abbrev pub invariant-loop-source : goal.invariant-loop-source
invariant-loop-source g l =
    let m = g.L.CellLibrary.meaning in
    record {
      same : m l.library ≡ m l.initial.library;
      so_far : Sourced l.operands → l.sum ≡ gathered (m l.initial.library) l.operation (take l.source-index l.operands);
    }
