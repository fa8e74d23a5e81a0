use Rattle.wbt_pause.proofs.Deciding.{leaves_within_cap}
use Rattle.wbt_pause.proofs.laws.leaves_within_cap.Goals as goal

pub returns : goal.returns
returns c = leaves_within_cap
