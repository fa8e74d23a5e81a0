use Rattle.wbt_pause.proofs.Cutting.{other_pauses_end}
use Rattle.wbt_pause.proofs.laws.other_pauses_end.Goals as goal

pub returns : goal.returns
returns c = other_pauses_end
