use Rattle.wbt_task.proofs.Leaving.{decisions_settle}
use Rattle.wbt_task.proofs.laws.decisions_settle.Goals as goal

pub returns : goal.returns
returns c = decisions_settle
