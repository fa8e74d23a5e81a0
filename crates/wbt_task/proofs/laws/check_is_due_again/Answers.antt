use Rattle.wbt_task.proofs.Keeping.{check_is_due_again}
use Rattle.wbt_task.proofs.laws.check_is_due_again.Goals as goal

pub returns : goal.returns
returns c = check_is_due_again
