use Rattle.wbt_book.proofs.PageWords.{spot_tells_page}
use Rattle.wbt_book.proofs.laws.spot_tells_page.Goals as goal

pub returns : goal.returns
returns c = spot_tells_page
