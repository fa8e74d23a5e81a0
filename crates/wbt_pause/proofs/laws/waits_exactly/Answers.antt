use Rattle.wbt_pause.proofs.Deciding.{waits_exactly}
use Rattle.wbt_pause.proofs.laws.waits_exactly.Goals as goal

pub returns : goal.returns
returns c = waits_exactly
