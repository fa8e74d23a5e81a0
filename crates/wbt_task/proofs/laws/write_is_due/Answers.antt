use Rattle.wbt_task.proofs.Keeping.{write_is_due}
use Rattle.wbt_task.proofs.laws.write_is_due.Goals as goal

pub returns : goal.returns
returns c = write_is_due
