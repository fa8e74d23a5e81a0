use Rattle.wbt_grant.proofs.Bounding.{peak_bounds}
use Rattle.wbt_grant.proofs.laws.whole.peak_bounds.Goals as goal

pub returns : goal.returns
returns c = peak_bounds
