use Rattle.wbt_limits.proofs.Rising.{following_is_hard}
use Rattle.wbt_limits.proofs.laws.following_is_hard.Goals as goal

pub returns : goal.returns
returns c = following_is_hard
