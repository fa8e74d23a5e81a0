use Rattle.wbt_book.proofs.Ledgers.{redirtying_keeps}
use Rattle.wbt_book.proofs.laws.redirtying_keeps.Goals as goal

pub returns : goal.returns
returns c = redirtying_keeps
