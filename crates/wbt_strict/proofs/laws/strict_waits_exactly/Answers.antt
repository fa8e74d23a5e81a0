use Rattle.wbt_strict.proofs.Strictly.{strictly_waits_exactly}
use Rattle.wbt_strict.proofs.laws.strict_waits_exactly.Goals as goal

pub returns : goal.returns
returns c = strictly_waits_exactly
