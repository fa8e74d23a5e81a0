use Rattle.wbt_run_laws.proofs.Ledger.{ledger_is_even}
use Rattle.wbt_run_laws.proofs.laws.points.ledger_is_even.Goals as goal

pub returns : goal.returns
returns c = ledger_is_even
