use Rattle.wbt_book.proofs.PageWords.{masks_change_pages}
use Rattle.wbt_book.proofs.laws.masks_change_pages.Goals as goal

pub returns : goal.returns
returns c = masks_change_pages
