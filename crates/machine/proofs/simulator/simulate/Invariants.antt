use Rattle.std.proofs.Common.{◌≡◌, ℕ, ◌*◌, ◌<◌, length, get_or, drop}
use Rattle.bench.specs.Retimings.{order, at_rest}
use Rattle.machine.specs.Values.{Solves, output}
use Rattle.machine.specs.Buffers.{rest_in, input_in}
use Rattle.machine.specs.Simulation.{Filled}
use Rattle.machine.proofs.simulator.simulate.Given as goal

abbrev pub invariant-loop-time : goal.invariant-loop-time
invariant-loop-time g l =
    let m = g.L.CellLibrary.meaning in
    let graph = l.bench.design.graph in
    record {
      same : m l.library ≡ m l.initial.library;
      past_history : drop (graph.count * length l.inputs) l.history ≡ drop (graph.count * length l.inputs) l.initial.history;
      filled : (d : g.row.L-Elem.Denot) (v : ℕ → ℕ → g.row.L-Elem.Denot) → Solves graph (m l.initial.library) (rest_in graph.count l.rest d) (input_in l.inputs d) v →
          Filled graph.count (order graph at_rest) v l.history d l.time 0
          × ((s : ℕ) → s < l.time → get_or l.place-items s d ≡ output graph (rest_in graph.count l.rest d) v s);
    }
