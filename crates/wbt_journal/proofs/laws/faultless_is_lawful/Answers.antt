use Rattle.wbt_journal.proofs.Judged.{is_lawful}
use Rattle.wbt_journal.proofs.laws.faultless_is_lawful.Goals as goal

pub returns : goal.returns
returns c = is_lawful
