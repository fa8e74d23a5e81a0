use Rattle.wbt_fraction.proofs.Parting.{undone}
use Rattle.wbt_fraction.proofs.laws.split_is_undone.Goals as goal

pub returns : goal.returns
returns c = undone
