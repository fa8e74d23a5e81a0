use Rattle.wbt_counter.proofs.WordLaws.{fold_adds}
use Rattle.wbt_counter.proofs.laws.words.fold_adds.Goals as goal

pub returns : goal.returns
returns c = fold_adds
