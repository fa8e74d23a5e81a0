use Rattle.wbt_run_laws.proofs.Ticking.{few_have_no_line, peaks_are_told, ticked_now, ticked_more}
use Rattle.wbt_run_laws.proofs.laws.turns.timer_turns_compose.Goals as goal

pub returns-clause-now : goal.returns-clause-now
returns-clause-now c = ticked_now

pub returns-clause-more : goal.returns-clause-more
returns-clause-more c = ticked_more

pub returns-clause-peaks : goal.returns-clause-peaks
returns-clause-peaks c = peaks_are_told

pub returns-clause-few : goal.returns-clause-few
returns-clause-few c = few_have_no_line
