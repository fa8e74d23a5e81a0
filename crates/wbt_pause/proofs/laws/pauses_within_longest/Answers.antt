use Rattle.wbt_pause.proofs.Deciding.{pauses_within_longest}
use Rattle.wbt_pause.proofs.laws.pauses_within_longest.Goals as goal

pub returns : goal.returns
returns c = pauses_within_longest
