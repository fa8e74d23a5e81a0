use Rattle.wbt_limits.proofs.Rising.{following_falls_slowly}
use Rattle.wbt_limits.proofs.laws.following_falls_slowly.Goals as goal

pub returns : goal.returns
returns c = following_falls_slowly
