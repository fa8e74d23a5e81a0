use Rattle.wbt_limits.proofs.Rising.{limits_are_lawful}
use Rattle.wbt_limits.proofs.laws.limits_are_lawful.Goals as goal

pub returns : goal.returns
returns c = limits_are_lawful
