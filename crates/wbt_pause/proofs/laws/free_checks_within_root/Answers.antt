use Rattle.wbt_pause.proofs.Polling.{free_checks_within_root}
use Rattle.wbt_pause.proofs.laws.free_checks_within_root.Goals as goal

pub returns : goal.returns
returns c = free_checks_within_root
