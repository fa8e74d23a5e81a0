use Rattle.wbt_fraction.proofs.Knowing.{all_past_periods}
use Rattle.wbt_fraction.proofs.laws.periods_are_past.Goals as goal

pub returns : goal.returns
returns c = all_past_periods
