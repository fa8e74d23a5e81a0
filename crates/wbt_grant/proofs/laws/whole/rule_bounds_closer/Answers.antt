use Rattle.wbt_grant.proofs.Heavy.{rule_bounds_closer}
use Rattle.wbt_grant.proofs.laws.whole.rule_bounds_closer.Goals as goal

pub returns : goal.returns
returns c = rule_bounds_closer
