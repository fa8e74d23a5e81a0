use Rattle.wbt_book.proofs.Ledgers.{each_dirtying_is_cleaned}
use Rattle.wbt_book.proofs.laws.each_dirtying_is_cleaned.Goals as goal

pub returns : goal.returns
returns c = each_dirtying_is_cleaned
