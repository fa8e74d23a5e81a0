use Rattle.wbt_replay_changes.proofs.Agrees.{moves_are_changes}
use Rattle.wbt_replay_changes.proofs.laws.moves_are_changes.Goals as goal

pub returns : goal.returns
returns c = moves_are_changes
