use Rattle.wbt_strict.proofs.Strictly.{grants_on_small}
use Rattle.wbt_strict.proofs.laws.strict_grants_on_small.Goals as goal

pub returns : goal.returns
returns c = grants_on_small
