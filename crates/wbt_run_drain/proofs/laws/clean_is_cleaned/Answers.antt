use Rattle.wbt_run_drain.proofs.Sweeping.{clean_is_cleaned}
use Rattle.wbt_run_drain.proofs.laws.clean_is_cleaned.Goals as goal

pub returns : goal.returns
returns c = clean_is_cleaned
