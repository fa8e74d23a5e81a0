use Rattle.wbt_replay_changes.proofs.Plain.{others_are_plain}
use Rattle.wbt_replay_changes.proofs.laws.others_are_plain.Goals as goal

pub returns : goal.returns
returns c = others_are_plain
