use Rattle.wbt_replay_ends.proofs.Ended.{runs_end}
use Rattle.wbt_replay_ends.proofs.laws.runs_end.Goals as goal

pub returns : goal.returns
returns c = runs_end
