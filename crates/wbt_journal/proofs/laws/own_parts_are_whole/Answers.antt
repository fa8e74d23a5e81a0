use Rattle.wbt_journal.proofs.Owning.{own_parts}
use Rattle.wbt_journal.proofs.laws.own_parts_are_whole.Goals as goal

pub returns : goal.returns
returns c = own_parts
