use Rattle.wbt_pause.proofs.Deciding.{longest_within_200}
use Rattle.wbt_pause.proofs.laws.longest_within_200.Goals as goal

pub returns : goal.returns
returns c = longest_within_200
