use Rattle.wbt_task.proofs.Leaving.{room_is_kept}
use Rattle.wbt_task.proofs.laws.room_is_kept.Goals as goal

pub returns : goal.returns
returns c = room_is_kept
