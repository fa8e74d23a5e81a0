use Rattle.wbt_journal.proofs.Verdicts.{each_is_right}
use Rattle.wbt_journal.proofs.laws.faults_are_right.Goals as goal

pub returns : goal.returns
returns c = each_is_right
