use Rattle.wbt_run_laws.proofs.Noting.{noted_of_writers, noted_of_flusher, noted_now, noted_more}
use Rattle.wbt_run_laws.proofs.laws.turns.noted_turns_compose.Goals as goal

pub returns-clause-of_writers : goal.returns-clause-of_writers
returns-clause-of_writers c = noted_of_writers

pub returns-clause-of_flushers : goal.returns-clause-of_flushers
returns-clause-of_flushers c = noted_of_flusher

pub returns-clause-now : goal.returns-clause-now
returns-clause-now c = noted_now

pub returns-clause-more : goal.returns-clause-more
returns-clause-more c = noted_more
