use Rattle.wbt_task.proofs.Leaving.{pages_are_left}
use Rattle.wbt_task.proofs.laws.pages_are_left.Goals as goal

pub returns : goal.returns
returns c = pages_are_left
