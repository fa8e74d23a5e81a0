use Rattle.wbt_replay_changes.proofs.Facts.{changes_have_facts}
use Rattle.wbt_replay_changes.proofs.laws.changes_have_facts.Goals as goal

pub returns : goal.returns
returns c = changes_have_facts
