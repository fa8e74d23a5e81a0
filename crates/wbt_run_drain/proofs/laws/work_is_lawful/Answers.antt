use Rattle.wbt_run_drain.proofs.Wholly.{work_dirtied_completed, work_found_dirtied, work_is_lawful, work_none_waits}
use Rattle.wbt_run_drain.proofs.laws.work_is_lawful.Goals as goal

pub returns-clause-lawful : goal.returns-clause-lawful
returns-clause-lawful c = work_is_lawful

pub returns-clause-found : goal.returns-clause-found
returns-clause-found c = work_found_dirtied

pub returns-clause-completed : goal.returns-clause-completed
returns-clause-completed c = work_dirtied_completed

pub returns-clause-none_waits : goal.returns-clause-none_waits
returns-clause-none_waits c = work_none_waits
