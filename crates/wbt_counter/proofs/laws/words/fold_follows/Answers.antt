use Rattle.wbt_counter.proofs.WordLaws.{fold_follows}
use Rattle.wbt_counter.proofs.laws.words.fold_follows.Goals as goal

pub returns : goal.returns
returns c = fold_follows
