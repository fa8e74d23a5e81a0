use Rattle.wbt_position.proofs.Weighing.{weight_is_between}
use Rattle.wbt_position.proofs.laws.weight_is_between.Goals as goal

pub returns : goal.returns
returns c = weight_is_between
