use Rattle.wbt_run_seats.proofs.Opening.{kit_is_opened}
use Rattle.wbt_run_seats.proofs.laws.opened.kit_is_opened.Goals as goal

pub returns : goal.returns
returns c = kit_is_opened
