use Rattle.wbt_run_laws.proofs.Owning.{periods_new}
use Rattle.wbt_run_laws.proofs.laws.points.periods_stay_new.Goals as goal

pub returns : goal.returns
returns c = periods_new
