use Rattle.wbt_fraction.proofs.Parting.{splits_on}
use Rattle.wbt_fraction.proofs.laws.splitter_splits_on.Goals as goal

pub returns : goal.returns
returns c = splits_on
