use Rattle.std.proofs.Common.{◌≡◌, ℕ, ◌*◌, List, length, take, drop}
use Rattle.words.specs.declared.graph.Graph.{Graph}
use Rattle.words.specs.Designs.{InRange, feed_at}
use Rattle.bench.specs.Orders.{Ranked}
use Rattle.machine.specs.Values.{Solves}
use Rattle.machine.specs.Plans.{Whole}
use Rattle.machine.specs.Buffers.{rest_in, input_in}
use Rattle.machine.specs.Simulation.{Filled}
use Rattle.machine.proofs.plan.Plan.fire.Given as goal

abbrev pub invariant-loop-cell : goal.invariant-loop-cell
invariant-loop-cell g l =
    let m = g.L.CellLibrary.meaning in
    let places = l.moment.count * length l.moment.inputs.now in
    record {
      same : m l.library ≡ m l.initial.library;
      past : drop places l.history ≡ drop places l.initial.history;
      filled : (graph : Graph) (order : List ℕ) → InRange graph → Ranked graph.count (feed_at graph) order → Whole graph order (take l.self.count l.self.cells) →
          (d : g.row.L-Elem.Denot) (v : ℕ → ℕ → g.row.L-Elem.Denot) → Solves graph (m l.initial.library) (rest_in graph.count l.moment.rest.now d) (input_in l.moment.inputs.now d) v →
          Filled graph.count order v l.initial.history d l.moment.time 0 → Filled graph.count order v l.history d l.moment.time l.cell-index;
    }
