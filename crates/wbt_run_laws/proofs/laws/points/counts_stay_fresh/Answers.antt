use Rattle.wbt_run_laws.proofs.Owning.{counts_fresh}
use Rattle.wbt_run_laws.proofs.laws.points.counts_stay_fresh.Goals as goal

pub returns : goal.returns
returns c = counts_fresh
