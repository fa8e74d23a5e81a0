use Rattle.wbt_run_laws.proofs.Working.{writers_go, flusher_goes, went_nowhere, went_on, log_is_whole}
use Rattle.wbt_run_laws.proofs.laws.turns.workers_go_on.Goals as goal

pub returns-clause-writers : goal.returns-clause-writers
returns-clause-writers c = writers_go

pub returns-clause-flusher : goal.returns-clause-flusher
returns-clause-flusher c = flusher_goes

pub returns-clause-now : goal.returns-clause-now
returns-clause-now c = went_nowhere

pub returns-clause-more : goal.returns-clause-more
returns-clause-more c = went_on

pub returns-clause-whole : goal.returns-clause-whole
returns-clause-whole c = log_is_whole
