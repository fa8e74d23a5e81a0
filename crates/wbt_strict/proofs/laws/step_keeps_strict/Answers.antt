use Rattle.wbt_strict.proofs.Steps.{step_keeps_strict}
use Rattle.wbt_strict.proofs.laws.step_keeps_strict.Goals as goal

pub returns : goal.returns
returns c = step_keeps_strict
