use Rattle.wbt_flex.proofs.Adding.{period_is_made}
use Rattle.wbt_flex.proofs.laws.period_is_made.Goals as goal

pub returns : goal.returns
returns c = period_is_made
