use Rattle.wbt_flex.proofs.Adding.{part_is_at_most_added}
use Rattle.wbt_flex.proofs.laws.part_is_at_most_added.Goals as goal

pub returns : goal.returns
returns c = part_is_at_most_added
