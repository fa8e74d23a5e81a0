use Rattle.wbt_task.proofs.Keeping.{checks_are_near}
use Rattle.wbt_task.proofs.laws.checks_are_near.Goals as goal

pub returns : goal.returns
returns c = checks_are_near
