use Rattle.wbt_run_laws.proofs.Ledger.{found_were_dirtied}
use Rattle.wbt_run_laws.proofs.laws.points.found_were_dirtied.Goals as goal

pub returns : goal.returns
returns c = found_were_dirtied
