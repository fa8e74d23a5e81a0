use Rattle.wbt_limits.proofs.Rising.{background_falls_to_half}
use Rattle.wbt_limits.proofs.laws.background_falls_to_half.Goals as goal

pub returns : goal.returns
returns c = background_falls_to_half
