use Rattle.wbt_run_laws.proofs.Entering.{write_is_next, others_write_none}
use Rattle.wbt_run_laws.proofs.laws.entries.entries_write_next.Goals as goal

pub returns-clause-write : goal.returns-clause-write
returns-clause-write c = write_is_next

pub returns-clause-others : goal.returns-clause-others
returns-clause-others c = others_write_none
