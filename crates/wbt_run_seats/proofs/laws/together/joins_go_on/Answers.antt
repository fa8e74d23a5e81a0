use Rattle.wbt_run_seats.proofs.Together.{at_first, one_more}
use Rattle.wbt_run_seats.proofs.laws.together.joins_go_on.Goals as goal

pub returns-clause-first : goal.returns-clause-first
returns-clause-first c = at_first

pub returns-clause-more : goal.returns-clause-more
returns-clause-more c = one_more
