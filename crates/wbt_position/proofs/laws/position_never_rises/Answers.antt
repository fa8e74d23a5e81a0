use Rattle.wbt_position.proofs.Falling.{position_never_rises}
use Rattle.wbt_position.proofs.laws.position_never_rises.Goals as goal

pub returns : goal.returns
returns c = position_never_rises
