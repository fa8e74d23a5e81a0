use Rattle.wbt_counter.proofs.WordLaws.{own_empties}
use Rattle.wbt_counter.proofs.laws.words.own_empties.Goals as goal

pub returns : goal.returns
returns c = own_empties
