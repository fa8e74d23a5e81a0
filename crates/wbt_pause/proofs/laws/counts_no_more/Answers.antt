use Rattle.wbt_pause.proofs.Counting.{counts_no_more}
use Rattle.wbt_pause.proofs.laws.counts_no_more.Goals as goal

pub returns : goal.returns
returns c = counts_no_more
