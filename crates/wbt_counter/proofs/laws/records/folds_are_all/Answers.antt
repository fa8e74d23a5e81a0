use Rattle.wbt_counter.proofs.Recorded.{folds_are_all}
use Rattle.wbt_counter.proofs.laws.records.folds_are_all.Goals as goal

pub returns : goal.returns
returns c = folds_are_all
