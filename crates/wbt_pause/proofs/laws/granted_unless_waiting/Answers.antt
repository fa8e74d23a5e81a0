use Rattle.wbt_pause.proofs.Deciding.{granted_unless_waiting}
use Rattle.wbt_pause.proofs.laws.granted_unless_waiting.Goals as goal

pub returns : goal.returns
returns c = granted_unless_waiting
