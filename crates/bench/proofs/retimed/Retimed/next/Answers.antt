use Rattle.std.proofs.Common.{rules, tests}
use Rattle.words.specs.declared.graph.Graph.{Graph}
use Rattle.bench.specs.Firing.{ready}
use Rattle.bench.specs.Retimings.{waits}
use Rattle.bench.proofs.Finding.{first_where}
use Rattle.bench.proofs.Listed.{has_rank}
use Rattle.bench.proofs.retimed.Retimed.next.Goals as goal

pub returns : goal.returns
returns c =
    let g : Graph = c.args.self.now.design.now.graph in
    first_where _ (ready g.count (waits g c.args.self.now.retiming.now) c.args.order.now) g.count (cc) c.find.ensures.ran (λ x b h k. (search rules, λ l. search (rules, tests, has_rank)))
