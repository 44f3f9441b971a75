use Rattle.channels.proofs.Running.{runs_put_out}
use Rattle.channels.proofs.Timed.{timing_holds, loads}
use Rattle.channels.proofs.timing.timing_law.Goals as goal

pub returns : goal.returns
returns g c = record { timing = timing_holds; loads = loads; runs = runs_put_out }
