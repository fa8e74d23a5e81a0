use Rattle.wbt_book.proofs.PageWords.{word_put}
use Rattle.wbt_book.proofs.laws.word_put.Goals as goal

pub returns : goal.returns
returns c = word_put
