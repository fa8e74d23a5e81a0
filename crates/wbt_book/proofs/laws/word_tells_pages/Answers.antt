use Rattle.wbt_book.proofs.PageWords.{word_tells_pages}
use Rattle.wbt_book.proofs.laws.word_tells_pages.Goals as goal

pub returns : goal.returns
returns c = word_tells_pages
