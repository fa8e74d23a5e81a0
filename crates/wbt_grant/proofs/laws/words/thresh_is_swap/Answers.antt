use Rattle.wbt_grant.proofs.StepWords.{thresh_is_swap}
use Rattle.wbt_grant.proofs.laws.words.thresh_is_swap.Goals as goal

pub returns : goal.returns
returns c = thresh_is_swap
