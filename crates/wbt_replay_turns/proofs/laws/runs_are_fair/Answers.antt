use Rattle.wbt_replay_turns.proofs.Rotation.{turns_fair}
use Rattle.wbt_replay_turns.proofs.laws.runs_are_fair.Goals as goal

pub returns : goal.returns
returns c = turns_fair
