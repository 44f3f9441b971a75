-- Every emitted program is accepted by load.
use Rattle.std.proofs.Common.{◌≡◌, None, ap, ◌∙◌}
use Rattle.words.specs.declared.graph.Graph.{Graph}
use Rattle.words.specs.Designs.{InRange}
use Rattle.words.specs.ProgramQuestions.{program_refused}
use Rattle.words.proofs.ProgramWalking.{program_passes}
use Rattle.bench.specs.declared.retiming.Retiming.{Retiming}
use Rattle.bench.specs.Orders.{Ranked}
use Rattle.bench.specs.Programs.{program}
use Rattle.bench.specs.Retimings.{Sound, order, current_delay}
use Rattle.bench.specs.Tables.{program_of}
use Rattle.bench.proofs.Searches.{none_or}
use Rattle.bench.proofs.Tabled.{program_table, table_in_range}
use Rattle.machine.specs.Loading.{tap_fault, line_fault}
use Rattle.machine.specs.Loads.{wiring_fault, load_fault}
use Rattle.machine.proofs.Emitted.{emitted_passes}

pub emitted_loads : (g : Graph) → InRange g → (p : Retiming) → Sound g p → Ranked g.count (current_delay g p) (order g p) → load_fault (program g p) ≡ None
emitted_loads g r p s ranked =
    let passes = emitted_passes g r p s ranked in
    none_or (program_refused (program g p)) (wiring_fault (program g p)) (ap program_refused (program_table g p ranked.whole) ∙ program_passes (program_of g p) (table_in_range g r p s ranked))
    ∙ none_or (tap_fault (program g p)) (line_fault (program g p)) passes.0
    ∙ passes.1
