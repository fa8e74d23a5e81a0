use Rattle.wbt_run_laws.proofs.Timing.{timer_follows}
use Rattle.wbt_run_laws.proofs.laws.points.timer_follows.Goals as goal

pub returns : goal.returns
returns c = timer_follows
