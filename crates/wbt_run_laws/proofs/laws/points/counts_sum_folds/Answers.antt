use Rattle.wbt_run_laws.proofs.Counting.{counts_sum}
use Rattle.wbt_run_laws.proofs.laws.points.counts_sum_folds.Goals as goal

pub returns : goal.returns
returns c = counts_sum
