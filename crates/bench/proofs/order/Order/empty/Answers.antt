use Rattle.bench.proofs.Listed.{kept_none}
use Rattle.bench.proofs.order.Order.empty.Goals as goal

pub invariant_of-result : goal.invariant_of-result
invariant_of-result c = kept_none
