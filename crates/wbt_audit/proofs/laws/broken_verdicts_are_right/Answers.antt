use Rattle.wbt_audit.proofs.Righting.{broken_right}
use Rattle.wbt_audit.proofs.laws.broken_verdicts_are_right.Goals as goal

pub returns : goal.returns
returns c = broken_right c.lawful_is_faultless.ensures
