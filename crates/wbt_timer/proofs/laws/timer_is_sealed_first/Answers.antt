use Rattle.wbt_timer.proofs.Made.{sealed_at_first}
use Rattle.wbt_timer.proofs.laws.timer_is_sealed_first.Goals as goal

pub returns : goal.returns
returns c = sealed_at_first
