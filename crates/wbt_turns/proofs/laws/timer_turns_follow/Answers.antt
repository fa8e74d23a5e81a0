use Rattle.wbt_turns.proofs.Following.{timer_turns_follow}
use Rattle.wbt_turns.proofs.laws.timer_turns_follow.Goals as goal

pub returns : goal.returns
returns c = timer_turns_follow
