use Rattle.std.proofs.Common.{rules}
use Rattle.bench.proofs.Listed.{kept_rank}
use Rattle.bench.proofs.order.Order.rank_of.Goals as goal

pub returns : goal.returns
returns c = let rank = kept_rank c.self.inside.nodes c.self.inside.ranks c.self.inside.count c.self.invariant c.args.node in search rules
