use Rattle.wbt_audit.proofs.Righting.{lawful_right}
use Rattle.wbt_audit.proofs.laws.lawful_verdicts_are_right.Goals as goal

pub returns : goal.returns
returns c = lawful_right c.faultless_is_lawful.ensures
