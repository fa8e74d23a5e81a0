use Rattle.wbt_book.proofs.PageWords.{word_holds_neighbours}
use Rattle.wbt_book.proofs.laws.word_holds_neighbours.Goals as goal

pub returns : goal.returns
returns c = word_holds_neighbours
