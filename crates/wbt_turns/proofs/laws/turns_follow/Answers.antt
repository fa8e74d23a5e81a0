use Rattle.wbt_turns.proofs.Following.{turns_follow}
use Rattle.wbt_turns.proofs.laws.turns_follow.Goals as goal

pub returns : goal.returns
returns c = turns_follow
