use Rattle.wbt_counter.proofs.WordLaws.{own_word_holds}
use Rattle.wbt_counter.proofs.laws.words.own_word_holds.Goals as goal

pub returns : goal.returns
returns c = own_word_holds
