use Rattle.wbt_book.proofs.PageWords.{shared_word_fits}
use Rattle.wbt_book.proofs.laws.shared_word_fits.Goals as goal

pub returns : goal.returns
returns c = shared_word_fits
