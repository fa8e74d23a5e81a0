use Rattle.wbt_run_laws.proofs.Lawfully.{is_lawful}
use Rattle.wbt_run_laws.proofs.laws.points.worked_is_lawful.Goals as goal

pub returns : goal.returns
returns c = is_lawful
