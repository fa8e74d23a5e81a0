use Rattle.wbt_fraction.proofs.Knowing.{all_were_added}
use Rattle.wbt_fraction.proofs.laws.events_were_added.Goals as goal

pub returns : goal.returns
returns c = all_were_added
