use Rattle.wbt_counter.proofs.WordLaws.{own_word_fits}
use Rattle.wbt_counter.proofs.laws.words.own_word_fits.Goals as goal

pub returns : goal.returns
returns c = own_word_fits
