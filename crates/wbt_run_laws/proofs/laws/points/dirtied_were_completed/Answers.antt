use Rattle.wbt_run_laws.proofs.Ledger.{dirtied_were_completed}
use Rattle.wbt_run_laws.proofs.laws.points.dirtied_were_completed.Goals as goal

pub returns : goal.returns
returns c = dirtied_were_completed
