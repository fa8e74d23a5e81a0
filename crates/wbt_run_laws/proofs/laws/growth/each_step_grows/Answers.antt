use Rattle.wbt_run_laws.proofs.Stepping.{steps_grow}
use Rattle.wbt_run_laws.proofs.laws.growth.each_step_grows.Goals as goal

pub returns : goal.returns
returns c = steps_grow
