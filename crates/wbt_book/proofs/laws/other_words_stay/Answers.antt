use Rattle.wbt_book.proofs.PageWords.{other_words_stay}
use Rattle.wbt_book.proofs.laws.other_words_stay.Goals as goal

pub returns : goal.returns
returns c = other_words_stay
