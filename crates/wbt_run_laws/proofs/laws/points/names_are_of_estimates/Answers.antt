use Rattle.wbt_run_laws.proofs.Deciding.{names_of_estimates}
use Rattle.wbt_run_laws.proofs.laws.points.names_are_of_estimates.Goals as goal

pub returns : goal.returns
returns c = names_of_estimates
