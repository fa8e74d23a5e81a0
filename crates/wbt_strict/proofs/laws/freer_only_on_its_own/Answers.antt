use Rattle.wbt_strict.proofs.Strictly.{freer_only_on_its_own}
use Rattle.wbt_strict.proofs.laws.freer_only_on_its_own.Goals as goal

pub returns : goal.returns
returns c = freer_only_on_its_own
