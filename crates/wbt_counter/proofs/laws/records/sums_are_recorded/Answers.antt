use Rattle.wbt_counter.proofs.Recorded.{sums_are_recorded}
use Rattle.wbt_counter.proofs.laws.records.sums_are_recorded.Goals as goal

pub returns : goal.returns
returns c = sums_are_recorded
