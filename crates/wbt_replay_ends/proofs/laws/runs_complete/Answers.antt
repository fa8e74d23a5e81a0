use Rattle.wbt_replay_ends.proofs.Ended.{runs_complete}
use Rattle.wbt_replay_ends.proofs.laws.runs_complete.Goals as goal

pub returns : goal.returns
returns c = runs_complete
