use Rattle.std.proofs.Common.{refl, rules}
use Rattle.words.specs.declared.graph.Graph.{Graph}
use Rattle.bench.specs.First.{first}
use Rattle.bench.specs.Verdicts.{c2_at}
use Rattle.bench.proofs.Finding.{first_over_range}
use Rattle.bench.proofs.bench.fn.Bench.c2_breach.find_map.Goals as goal

pub returns : goal.returns
returns c =
    let g : Graph = c.captures.self.now.design.graph in (
      first_over_range (λ i. first (c2_at g c.captures.self.now.retiming c.args.source i) g.count) c.captures.count (cc) c.find_map.ensures.runs (λ x b h k. search rules) (λ x b l k. search rules),
      (refl, refl),
    )
