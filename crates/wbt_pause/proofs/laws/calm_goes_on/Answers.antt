use Rattle.wbt_pause.proofs.Deciding.{calm_goes_on}
use Rattle.wbt_pause.proofs.laws.calm_goes_on.Goals as goal

pub returns : goal.returns
returns c = calm_goes_on
