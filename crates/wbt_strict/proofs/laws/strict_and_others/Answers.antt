use Rattle.wbt_strict.proofs.Compared.{strict_and_others}
use Rattle.wbt_strict.proofs.laws.strict_and_others.Goals as goal

pub returns : goal.returns
returns c = strict_and_others
