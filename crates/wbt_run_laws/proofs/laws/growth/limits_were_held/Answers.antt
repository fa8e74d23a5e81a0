use Rattle.wbt_run_laws.proofs.Holding.{held_one, held_more, check_tells, others_tell_none, held_loaded, held_new}
use Rattle.wbt_run_laws.proofs.laws.growth.limits_were_held.Goals as goal

pub returns-clause-one : goal.returns-clause-one
returns-clause-one c = held_one

pub returns-clause-more : goal.returns-clause-more
returns-clause-more c = held_more

pub returns-clause-check : goal.returns-clause-check
returns-clause-check c = check_tells

pub returns-clause-others : goal.returns-clause-others
returns-clause-others c = others_tell_none

pub returns-clause-loaded : goal.returns-clause-loaded
returns-clause-loaded c = held_loaded

pub returns-clause-stay_new : goal.returns-clause-stay_new
returns-clause-stay_new c = held_new
