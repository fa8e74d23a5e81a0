use Rattle.wbt_journal.proofs.Unmarking.{lawful_is_told}
use Rattle.wbt_journal.proofs.laws.lawful_is_told.Goals as goal

pub returns : goal.returns
returns c = lawful_is_told
