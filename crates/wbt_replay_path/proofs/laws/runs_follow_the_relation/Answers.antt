use Rattle.wbt_replay_path.proofs.Following.{is_followed}
use Rattle.wbt_replay_path.proofs.laws.runs_follow_the_relation.Goals as goal

pub returns : goal.returns
returns c = is_followed
