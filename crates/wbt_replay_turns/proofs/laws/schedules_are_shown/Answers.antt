use Rattle.wbt_replay_turns.proofs.Schedules.{is_shown}
use Rattle.wbt_replay_turns.proofs.laws.schedules_are_shown.Goals as goal

pub returns : goal.returns
returns c = is_shown
