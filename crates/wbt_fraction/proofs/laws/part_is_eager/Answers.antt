use Rattle.wbt_fraction.proofs.Running.{part_is_eager}
use Rattle.wbt_fraction.proofs.laws.part_is_eager.Goals as goal

pub returns : goal.returns
returns c = part_is_eager
