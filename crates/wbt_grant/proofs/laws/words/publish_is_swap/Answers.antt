use Rattle.wbt_grant.proofs.StepWords.{publish_is_swap}
use Rattle.wbt_grant.proofs.laws.words.publish_is_swap.Goals as goal

pub returns : goal.returns
returns c = publish_is_swap
