use Rattle.wbt_run_laws.proofs.EightPages.{eight_worked}
use Rattle.wbt_run_laws.proofs.laws.example.eight_pages_are_worked.Goals as goal

pub returns : goal.returns
returns c = eight_worked
