use Rattle.wbt_pause.proofs.Deciding.{waiting_has_none}
use Rattle.wbt_pause.proofs.laws.waiting_has_none.Goals as goal

pub returns : goal.returns
returns c = waiting_has_none
