use Rattle.wbt_run_seats.proofs.Fitting.{plan_suits}
use Rattle.wbt_run_seats.proofs.laws.opened.plan_suits.Goals as goal

pub returns : goal.returns
returns c = plan_suits
