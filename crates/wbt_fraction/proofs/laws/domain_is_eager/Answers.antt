use Rattle.wbt_fraction.proofs.Running.{domain_is_eager}
use Rattle.wbt_fraction.proofs.laws.domain_is_eager.Goals as goal

pub returns : goal.returns
returns c = domain_is_eager
