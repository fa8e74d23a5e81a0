use Rattle.wbt_counter.proofs.WordLaws.{own_is_near}
use Rattle.wbt_counter.proofs.laws.words.own_is_near.Goals as goal

pub returns : goal.returns
returns c = own_is_near
