use Rattle.std.proofs.Common.{◌≡◌}
use Rattle.bench.specs.First.{first}
use Rattle.bench.specs.Verdicts.{c1_at}
use Rattle.bench.proofs.bench.fn.Bench.c1_breach.find_map.Given as goal

abbrev pub ensures : goal.ensures
ensures l r = r ≡ first (c1_at l.self.entry.now.design.graph l.self.entry.now.retiming l.node) l.count
