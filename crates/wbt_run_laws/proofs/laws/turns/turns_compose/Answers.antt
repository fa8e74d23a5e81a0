use Rattle.wbt_run_laws.proofs.Turning.{turn_of_writers, turn_of_flusher, since_now, since_more}
use Rattle.wbt_run_laws.proofs.laws.turns.turns_compose.Goals as goal

pub returns-clause-of_writers : goal.returns-clause-of_writers
returns-clause-of_writers c = turn_of_writers

pub returns-clause-of_flushers : goal.returns-clause-of_flushers
returns-clause-of_flushers c = turn_of_flusher

pub returns-clause-now : goal.returns-clause-now
returns-clause-now c = since_now

pub returns-clause-more : goal.returns-clause-more
returns-clause-more c = since_more
