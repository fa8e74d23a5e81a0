use Rattle.wbt_position.proofs.Rising.{polynom_never_rises}
use Rattle.wbt_position.proofs.laws.polynom_never_rises.Goals as goal

pub returns : goal.returns
returns c = polynom_never_rises
