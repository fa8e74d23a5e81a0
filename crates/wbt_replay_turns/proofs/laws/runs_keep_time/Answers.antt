use Rattle.wbt_replay_turns.proofs.Clock.{keeps_time}
use Rattle.wbt_replay_turns.proofs.laws.runs_keep_time.Goals as goal

pub returns : goal.returns
returns c = keeps_time
