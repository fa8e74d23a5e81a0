use Rattle.wbt_run_laws.proofs.Entering.{check_names_seen, others_name_none, check_reads_kept, others_read_none}
use Rattle.wbt_run_laws.proofs.laws.entries.entries_stay_new.Goals as goal

pub returns-clause-names : goal.returns-clause-names
returns-clause-names c = check_names_seen

pub returns-clause-others_name_none : goal.returns-clause-others_name_none
returns-clause-others_name_none c = others_name_none

pub returns-clause-reads : goal.returns-clause-reads
returns-clause-reads c = check_reads_kept

pub returns-clause-others_read_none : goal.returns-clause-others_read_none
returns-clause-others_read_none c = others_read_none
