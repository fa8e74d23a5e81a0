use Rattle.wbt_strict.proofs.Falling.{strict_never_rises}
use Rattle.wbt_strict.proofs.laws.strict_never_rises.Goals as goal

pub returns : goal.returns
returns c = strict_never_rises
