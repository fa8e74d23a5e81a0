use Rattle.wbt_run_seats.proofs.Firsts.{timer_opens}
use Rattle.wbt_run_seats.proofs.laws.opened.timer_opens.Goals as goal

pub returns : goal.returns
returns c = timer_opens
