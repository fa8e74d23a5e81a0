use Rattle.wbt_book.proofs.PageWords.{word_holds_page}
use Rattle.wbt_book.proofs.laws.word_holds_page.Goals as goal

pub returns : goal.returns
returns c = word_holds_page
