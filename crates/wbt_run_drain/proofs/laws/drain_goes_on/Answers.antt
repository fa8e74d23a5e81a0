use Rattle.wbt_run_drain.proofs.Draining.{drain_goes_on}
use Rattle.wbt_run_drain.proofs.laws.drain_goes_on.Goals as goal

pub returns : goal.returns
returns c = drain_goes_on
