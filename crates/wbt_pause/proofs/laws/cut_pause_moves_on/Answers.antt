use Rattle.wbt_pause.proofs.Cutting.{cut_pause_moves_on}
use Rattle.wbt_pause.proofs.laws.cut_pause_moves_on.Goals as goal

pub returns : goal.returns
returns c = cut_pause_moves_on
