use Rattle.bench.proofs.Rounds.{well_defined}
use Rattle.bench.proofs.bench.Bench.design.Goals as goal

pub returns-clause-well_defined : goal.returns-clause-well_defined
returns-clause-well_defined c = well_defined c.args.self.now.design.graph c.args.self.now.ordered
