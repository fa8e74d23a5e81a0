use Rattle.wbt_rules.proofs.Sharing.{none_above}
use Rattle.wbt_rules.proofs.things.greatest_share.Goals as goal

pub returns-clause-none_above : goal.returns-clause-none_above
returns-clause-none_above c = λ part above. rw c.from.ensures (none_above part c.args.device.now above)
