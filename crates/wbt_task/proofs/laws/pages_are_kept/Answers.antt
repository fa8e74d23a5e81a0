use Rattle.wbt_task.proofs.Keeping.{pages_are_kept}
use Rattle.wbt_task.proofs.laws.pages_are_kept.Goals as goal

pub returns : goal.returns
returns c = pages_are_kept
