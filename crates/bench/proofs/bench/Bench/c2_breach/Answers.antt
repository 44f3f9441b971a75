use Rattle.std.proofs.Common.{rules}
use Rattle.words.specs.declared.graph.Graph.{Graph}
use Rattle.words.specs.Designs.{sources}
use Rattle.bench.specs.First.{first}
use Rattle.bench.specs.Verdicts.{c2_at}
use Rattle.bench.proofs.Finding.{first_over_range}
use Rattle.bench.proofs.bench.Bench.c2_breach.Goals as goal

pub returns : goal.returns
returns c =
    let g : Graph = c.args.self.now.design.graph in
    first_over_range (λ j. first (λ i. first (c2_at g c.args.self.now.retiming j i) g.count) g.count) sources (cc) c.find_map.ensures.runs (λ x b h k. search rules) (λ x b l k. search rules)
