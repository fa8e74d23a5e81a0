use Rattle.wbt_replay_turns.proofs.Words.Whole.{all_take_turns}
use Rattle.wbt_replay_turns.proofs.laws.runs_take_turns.Goals as goal

pub returns : goal.returns
returns c = all_take_turns
