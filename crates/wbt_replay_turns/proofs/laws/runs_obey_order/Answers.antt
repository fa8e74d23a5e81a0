use Rattle.wbt_replay_turns.proofs.Lines.Runs.{obeys_order}
use Rattle.wbt_replay_turns.proofs.laws.runs_obey_order.Goals as goal

pub returns : goal.returns
returns c = obeys_order
