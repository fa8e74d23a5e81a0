use Rattle.wbt_run_laws.proofs.OnePage.{one_worked}
use Rattle.wbt_run_laws.proofs.laws.example.one_page_is_worked.Goals as goal

pub returns : goal.returns
returns c = one_worked
