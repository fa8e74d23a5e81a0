use Rattle.wbt_task.proofs.Keeping.{stays_below}
use Rattle.wbt_task.proofs.laws.stays_below.Goals as goal

pub returns : goal.returns
returns c = stays_below
