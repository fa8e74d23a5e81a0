use Rattle.wbt_task.proofs.Keeping.{others_stay}
use Rattle.wbt_task.proofs.laws.others_stay.Goals as goal

pub returns : goal.returns
returns c = others_stay
