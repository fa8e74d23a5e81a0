use Rattle.wbt_task.proofs.Ending.{ended_writers_leak}
use Rattle.wbt_task.proofs.laws.ended_writers_leak.Goals as goal

pub returns : goal.returns
returns c = ended_writers_leak
