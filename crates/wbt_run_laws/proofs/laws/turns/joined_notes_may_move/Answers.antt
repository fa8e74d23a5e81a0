use Rattle.wbt_run_laws.proofs.Moving.{shares_may_move, plain_estimates}
use Rattle.wbt_run_laws.proofs.laws.turns.joined_notes_may_move.Goals as goal

pub returns-clause-shares : goal.returns-clause-shares
returns-clause-shares c = shares_may_move

pub returns-clause-estimates : goal.returns-clause-estimates
returns-clause-estimates c = plain_estimates
