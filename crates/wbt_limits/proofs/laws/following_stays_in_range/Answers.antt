use Rattle.wbt_limits.proofs.Rising.{following_stays_in_range}
use Rattle.wbt_limits.proofs.laws.following_stays_in_range.Goals as goal

pub returns : goal.returns
returns c = following_stays_in_range
