use Rattle.wbt_published.proofs.Undoing.{undone}
use Rattle.wbt_published.proofs.laws.split_is_undone.Goals as goal

pub returns : goal.returns
returns c = undone
