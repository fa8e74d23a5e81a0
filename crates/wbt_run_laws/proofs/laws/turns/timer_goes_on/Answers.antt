use Rattle.wbt_run_laws.proofs.Working.{timer_went_nowhere, timer_went_on, timer_log_is_whole}
use Rattle.wbt_run_laws.proofs.laws.turns.timer_goes_on.Goals as goal

pub returns-clause-now : goal.returns-clause-now
returns-clause-now c = timer_went_nowhere

pub returns-clause-more : goal.returns-clause-more
returns-clause-more c = timer_went_on

pub returns-clause-whole : goal.returns-clause-whole
returns-clause-whole c = timer_log_is_whole
