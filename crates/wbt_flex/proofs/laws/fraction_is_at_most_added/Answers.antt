use Rattle.wbt_flex.proofs.Adding.{fraction_is_at_most_added}
use Rattle.wbt_flex.proofs.laws.fraction_is_at_most_added.Goals as goal

pub returns : goal.returns
returns c = fraction_is_at_most_added
