use Rattle.wbt_journal.proofs.OneText.{text_once}
use Rattle.wbt_journal.proofs.laws.text_fixes_journal.Goals as goal

pub returns : goal.returns
returns c = text_once
