use Rattle.wbt_run_seats.proofs.Gathering.{grown_are_notes, first_is_gathered, timer_is_gathered, more_are_gathered, timer_takes_in}
use Rattle.wbt_run_seats.proofs.laws.gathered.notes_are_gathered.Goals as goal

pub returns-clause-grown : goal.returns-clause-grown
returns-clause-grown c = grown_are_notes

pub returns-clause-first : goal.returns-clause-first
returns-clause-first c = first_is_gathered

pub returns-clause-timer : goal.returns-clause-timer
returns-clause-timer c = timer_is_gathered

pub returns-clause-more : goal.returns-clause-more
returns-clause-more c = more_are_gathered

pub returns-clause-timer_takes_in : goal.returns-clause-timer_takes_in
returns-clause-timer_takes_in c = timer_takes_in
