use Rattle.wbt_journal.proofs.Fixing.{lawful_once}
use Rattle.wbt_journal.proofs.laws.lawful_text_fixes_journal.Goals as goal

pub returns : goal.returns
returns c = lawful_once
