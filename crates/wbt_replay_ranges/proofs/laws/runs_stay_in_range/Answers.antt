use Rattle.wbt_replay_ranges.proofs.InRange.{stays_in_range}
use Rattle.wbt_replay_ranges.proofs.laws.runs_stay_in_range.Goals as goal

pub returns : goal.returns
returns c = stays_in_range
