use Rattle.wbt_journal.proofs.Unmarking.{printed_by_forms}
use Rattle.wbt_journal.proofs.laws.forms_are_printed.Goals as goal

pub returns : goal.returns
returns c = printed_by_forms
