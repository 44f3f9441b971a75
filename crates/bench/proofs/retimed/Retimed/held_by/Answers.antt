use Rattle.std.proofs.Common.{not, ◌&&◌, rules, tests}
use Rattle.words.specs.declared.graph.Graph.{Graph}
use Rattle.bench.specs.Firing.{has}
use Rattle.bench.specs.Retimings.{waits}
use Rattle.bench.proofs.Finding.{first_from_find}
use Rattle.bench.proofs.Listed.{has_rank}
use Rattle.bench.proofs.retimed.Retimed.held_by.Goals as goal

pub returns : goal.returns
returns c =
    let g : Graph = c.args.self.now.design.now.graph in
    first_from_find _ (λ j. waits g c.args.self.now.retiming.now c.args.node j && not (has c.args.order.now j)) g.count (cc) c.find.ensures.ran (λ x b h k. (search rules, λ l. search (rules, tests, has_rank)))
