use Rattle.wbt_judged.proofs.Judging.{are_judged}
use Rattle.wbt_judged.proofs.judged_alike.Goals as goal

pub returns : goal.returns
returns c = are_judged
