use Rattle.wbt_limits.proofs.Rising.{thresh_never_falls}
use Rattle.wbt_limits.proofs.laws.thresh_never_falls.Goals as goal

pub returns : goal.returns
returns c = thresh_never_falls
