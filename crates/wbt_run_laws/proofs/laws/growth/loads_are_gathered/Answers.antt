use Rattle.wbt_run_laws.proofs.Stepping.{gathered_more, untold_grows, check_grows}
use Rattle.wbt_run_laws.proofs.laws.growth.loads_are_gathered.Goals as goal

pub returns-clause-more : goal.returns-clause-more
returns-clause-more c = gathered_more

pub returns-clause-untold : goal.returns-clause-untold
returns-clause-untold c = untold_grows

pub returns-clause-check : goal.returns-clause-check
returns-clause-check c = check_grows
