use Rattle.wbt_strict.proofs.Example.{strict_grants}
use Rattle.wbt_strict.proofs.laws.strict_grants.Goals as goal

pub returns : goal.returns
returns c = strict_grants
