use Rattle.wbt_book.proofs.Ledgers.{absorbing_keeps}
use Rattle.wbt_book.proofs.laws.absorbing_keeps.Goals as goal

pub returns : goal.returns
returns c = absorbing_keeps
