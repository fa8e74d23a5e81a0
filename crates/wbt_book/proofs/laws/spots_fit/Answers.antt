use Rattle.wbt_book.proofs.PageWords.{spots_fit}
use Rattle.wbt_book.proofs.laws.spots_fit.Goals as goal

pub returns : goal.returns
returns c = spots_fit
