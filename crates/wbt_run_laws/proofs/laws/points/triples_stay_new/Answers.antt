use Rattle.wbt_run_laws.proofs.Owning.{triples_new}
use Rattle.wbt_run_laws.proofs.laws.points.triples_stay_new.Goals as goal

pub returns : goal.returns
returns c = triples_new
