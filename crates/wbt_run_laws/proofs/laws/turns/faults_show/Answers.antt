use Rattle.wbt_run_laws.proofs.Faulting.{faults_counted, fault_shows, own_faults}
use Rattle.wbt_run_laws.proofs.laws.turns.faults_show.Goals as goal

pub returns-clause-counted : goal.returns-clause-counted
returns-clause-counted c = faults_counted

pub returns-clause-last : goal.returns-clause-last
returns-clause-last c = fault_shows

pub returns-clause-own : goal.returns-clause-own
returns-clause-own c = own_faults
