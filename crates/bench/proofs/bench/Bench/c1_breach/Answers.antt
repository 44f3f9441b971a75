use Rattle.std.proofs.Common.{rules}
use Rattle.words.specs.declared.graph.Graph.{Graph}
use Rattle.bench.specs.First.{first}
use Rattle.bench.specs.Verdicts.{c1_at}
use Rattle.bench.proofs.Finding.{first_over_range}
use Rattle.bench.proofs.bench.Bench.c1_breach.Goals as goal

pub returns : goal.returns
returns c =
    let g : Graph = c.args.self.now.design.graph in
    first_over_range (λ i. first (c1_at g c.args.self.now.retiming i) g.count) g.count (cc) c.find_map.ensures.runs (λ x b h k. search rules) (λ x b l k. search rules)
