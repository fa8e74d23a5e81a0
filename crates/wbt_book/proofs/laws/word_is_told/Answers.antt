use Rattle.wbt_book.proofs.PageWords.{word_is_told}
use Rattle.wbt_book.proofs.laws.word_is_told.Goals as goal

pub returns : goal.returns
returns c = word_is_told
