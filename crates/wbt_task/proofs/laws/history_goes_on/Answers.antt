use Rattle.wbt_task.proofs.Keeping.{history_goes_on}
use Rattle.wbt_task.proofs.laws.history_goes_on.Goals as goal

pub returns : goal.returns
returns c = history_goes_on
