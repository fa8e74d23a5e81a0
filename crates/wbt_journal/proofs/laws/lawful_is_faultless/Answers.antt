use Rattle.wbt_journal.proofs.Judged.{is_faultless}
use Rattle.wbt_journal.proofs.laws.lawful_is_faultless.Goals as goal

pub returns : goal.returns
returns c = is_faultless
