use Rattle.std.proofs.Common.{◌≡◌, ◌≤◌, length, take}
use Rattle.words.specs.Designs.{feed_at, sources}
use Rattle.bench.specs.Tables.{taps_to}
use Rattle.machine.proofs.cell.Cell.of.Given as goal

abbrev pub invariant-loop-source : goal.invariant-loop-source
invariant-loop-source l = record { table : length l.taps ≡ sources; few : l.count ≤ l.source; so_far : take l.count l.taps ≡ taps_to (feed_at l.design.graph l.node) l.source }
