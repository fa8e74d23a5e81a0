use Rattle.wbt_flex.proofs.Adding.{domain_is_at_most_added}
use Rattle.wbt_flex.proofs.laws.domain_is_at_most_added.Goals as goal

pub returns : goal.returns
returns c = domain_is_at_most_added
