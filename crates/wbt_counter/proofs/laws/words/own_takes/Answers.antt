use Rattle.wbt_counter.proofs.WordLaws.{own_takes}
use Rattle.wbt_counter.proofs.laws.words.own_takes.Goals as goal

pub returns : goal.returns
returns c = own_takes
