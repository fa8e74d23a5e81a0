use Rattle.wbt_run_laws.proofs.Entering.{record_becomes}
use Rattle.wbt_run_laws.proofs.laws.entries.record_becomes.Goals as goal

pub returns : goal.returns
returns c = record_becomes
