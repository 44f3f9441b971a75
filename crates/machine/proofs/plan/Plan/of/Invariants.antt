use Rattle.std.proofs.Common.{◌≡◌, ℕ, ◌<◌, length, get_or}
use Rattle.words.specs.Designs.{max_nodes}
use Rattle.bench.specs.Retimings.{order, at_rest}
use Rattle.machine.specs.declared.cell.Cell.{Cell}
use Rattle.machine.specs.Plans.{Planned}
use Rattle.machine.proofs.plan.Plan.of.Given as goal

abbrev pub invariant-loop-rank : goal.invariant-loop-rank
invariant-loop-rank l =
    record {
      table : length l.cells ≡ max_nodes;
      planned : (k : ℕ) (d : Cell) → k < l.rank → Planned l.bench.design.graph (get_or (order l.bench.design.graph at_rest) k 0) (get_or l.cells k d);
    }
