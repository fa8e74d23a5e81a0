use Rattle.wbt_book.proofs.PageWords.{event_changes_page}
use Rattle.wbt_book.proofs.laws.event_changes_page.Goals as goal

pub returns : goal.returns
returns c = event_changes_page
