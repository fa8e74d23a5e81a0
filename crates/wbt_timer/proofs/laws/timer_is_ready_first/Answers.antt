use Rattle.wbt_timer.proofs.Ready.{ready_at_first}
use Rattle.wbt_timer.proofs.laws.timer_is_ready_first.Goals as goal

pub returns : goal.returns
returns c = ready_at_first
