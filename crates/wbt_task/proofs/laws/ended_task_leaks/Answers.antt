use Rattle.wbt_task.proofs.Ending.{ended_task_leaks}
use Rattle.wbt_task.proofs.laws.ended_task_leaks.Goals as goal

pub returns : goal.returns
returns c = ended_task_leaks
