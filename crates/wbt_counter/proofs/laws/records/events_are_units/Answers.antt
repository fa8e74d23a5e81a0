use Rattle.wbt_counter.proofs.Recorded.{events_are_units}
use Rattle.wbt_counter.proofs.laws.records.events_are_units.Goals as goal

pub returns : goal.returns
returns c = events_are_units
