use Rattle.wbt_run_seats.proofs.Staking.{all_notes_come_together}
use Rattle.wbt_run_seats.proofs.laws.gathered.all_notes_come_together.Goals as goal

pub returns : goal.returns
returns c = all_notes_come_together
