use Rattle.wbt_strict.proofs.Strictly.{strictly_free_exactly}
use Rattle.wbt_strict.proofs.laws.strict_is_free_up_to_its_middle.Goals as goal

pub returns : goal.returns
returns c = strictly_free_exactly
