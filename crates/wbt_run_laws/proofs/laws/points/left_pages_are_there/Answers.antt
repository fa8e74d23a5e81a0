use Rattle.wbt_run_laws.proofs.Lefts.{left_pages_there}
use Rattle.wbt_run_laws.proofs.laws.points.left_pages_are_there.Goals as goal

pub returns : goal.returns
returns c = left_pages_there
