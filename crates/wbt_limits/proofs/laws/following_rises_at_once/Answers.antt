use Rattle.wbt_limits.proofs.Rising.{following_rises_at_once}
use Rattle.wbt_limits.proofs.laws.following_rises_at_once.Goals as goal

pub returns : goal.returns
returns c = following_rises_at_once
