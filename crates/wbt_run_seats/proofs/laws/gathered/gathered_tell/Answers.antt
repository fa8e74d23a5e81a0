use Rattle.wbt_run_seats.proofs.Telling.{gathered_tell}
use Rattle.wbt_run_seats.proofs.laws.gathered.gathered_tell.Goals as goal

pub returns : goal.returns
returns c = gathered_tell
