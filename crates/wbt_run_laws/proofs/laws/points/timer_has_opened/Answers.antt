use Rattle.wbt_run_laws.proofs.Timing.{timer_has_opened}
use Rattle.wbt_run_laws.proofs.laws.points.timer_has_opened.Goals as goal

pub returns : goal.returns
returns c = timer_has_opened
