use Rattle.wbt_run_seats.proofs.Records.{records_come_together}
use Rattle.wbt_run_seats.proofs.laws.together.records_come_together.Goals as goal

pub returns : goal.returns
returns c = records_come_together
