use Rattle.wbt_strict.proofs.Bounding.{strict_is_bounded}
use Rattle.wbt_strict.proofs.laws.strict_is_bounded.Goals as goal

pub returns : goal.returns
returns c = strict_is_bounded
