use Rattle.wbt_journal.proofs.Folding.{once_is_up}
use Rattle.wbt_journal.proofs.laws.folds_once_are_up.Goals as goal

pub returns : goal.returns
returns c = once_is_up
