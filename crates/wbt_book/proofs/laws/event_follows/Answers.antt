use Rattle.wbt_book.proofs.PageWords.{event_follows}
use Rattle.wbt_book.proofs.laws.event_follows.Goals as goal

pub returns : goal.returns
returns c = event_follows
