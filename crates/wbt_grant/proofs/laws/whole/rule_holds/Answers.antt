use Rattle.wbt_grant.proofs.Whole.{rule_holds}
use Rattle.wbt_grant.proofs.laws.whole.rule_holds.Goals as goal

pub returns : goal.returns
returns c = rule_holds
