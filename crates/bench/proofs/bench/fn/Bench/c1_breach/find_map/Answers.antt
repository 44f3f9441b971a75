use Rattle.std.proofs.Common.{refl, rules}
use Rattle.bench.specs.Verdicts.{c1_at}
use Rattle.bench.proofs.Finding.{first_over_range}
use Rattle.bench.proofs.bench.fn.Bench.c1_breach.find_map.Goals as goal

pub returns : goal.returns
returns c = (
  first_over_range (c1_at c.captures.self.now.design.graph c.captures.self.now.retiming c.args.node) c.captures.count (cc) c.find_map.ensures.runs (λ x b h k. search rules) (λ x b l k. search rules),
  (refl, refl),
)
