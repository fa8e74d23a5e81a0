use Rattle.wbt_run_seats.proofs.Lefts.{closes_run}
use Rattle.wbt_run_seats.proofs.laws.gathered.closes_run.Goals as goal

pub returns : goal.returns
returns c = closes_run
