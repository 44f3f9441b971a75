use Rattle.std.proofs.Common.{◌≡◌}
use Rattle.bench.specs.First.{first}
use Rattle.bench.specs.Verdicts.{c2_at}
use Rattle.bench.proofs.bench.fn.Bench.c2_breach.find_map.Given as goal

abbrev pub ensures : goal.ensures
ensures l r = r ≡ first (λ i. first (c2_at l.self.entry.now.design.graph l.self.entry.now.retiming l.source i) l.self.entry.now.design.graph.count) l.count
