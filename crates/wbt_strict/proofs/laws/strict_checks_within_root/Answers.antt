use Rattle.wbt_strict.proofs.Strictly.{strict_checks_within_root}
use Rattle.wbt_strict.proofs.laws.strict_checks_within_root.Goals as goal

pub returns : goal.returns
returns c = strict_checks_within_root
