use Rattle.wbt_counter.proofs.WordLaws.{own_adds}
use Rattle.wbt_counter.proofs.laws.words.own_adds.Goals as goal

pub returns : goal.returns
returns c = own_adds
