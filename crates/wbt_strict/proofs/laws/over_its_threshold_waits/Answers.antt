use Rattle.wbt_strict.proofs.Strictly.{over_its_threshold_waits}
use Rattle.wbt_strict.proofs.laws.over_its_threshold_waits.Goals as goal

pub returns : goal.returns
returns c = over_its_threshold_waits
