use Rattle.wbt_grant.proofs.Tests.{tests_decide}
use Rattle.wbt_grant.proofs.laws.refused.tests_decide.Goals as goal

pub returns : goal.returns
returns c = tests_decide
