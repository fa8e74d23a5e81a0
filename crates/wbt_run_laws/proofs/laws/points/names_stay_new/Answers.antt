use Rattle.wbt_run_laws.proofs.Owning.{names_new}
use Rattle.wbt_run_laws.proofs.laws.points.names_stay_new.Goals as goal

pub returns : goal.returns
returns c = names_new
