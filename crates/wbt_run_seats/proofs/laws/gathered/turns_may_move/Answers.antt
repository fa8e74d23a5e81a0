use Rattle.wbt_run_seats.proofs.Gathering.{moved_are_gathered}
use Rattle.wbt_run_seats.proofs.laws.gathered.turns_may_move.Goals as goal

pub returns : goal.returns
returns c = moved_are_gathered
