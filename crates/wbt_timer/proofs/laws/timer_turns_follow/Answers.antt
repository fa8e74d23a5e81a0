use Rattle.wbt_timer.proofs.Made.{turns_follow}
use Rattle.wbt_timer.proofs.laws.timer_turns_follow.Goals as goal

pub returns : goal.returns
returns c = turns_follow
