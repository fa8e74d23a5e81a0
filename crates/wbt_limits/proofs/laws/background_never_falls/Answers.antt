use Rattle.wbt_limits.proofs.Rising.{background_never_falls}
use Rattle.wbt_limits.proofs.laws.background_never_falls.Goals as goal

pub returns : goal.returns
returns c = background_never_falls
