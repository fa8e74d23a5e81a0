use Rattle.wbt_run_laws.proofs.Logging.{logged_nothing, logged_both, logged_entry, logged_check, logged_estimate}
use Rattle.wbt_run_laws.proofs.laws.growth.log_tells_more.Goals as goal

pub returns-clause-nothing : goal.returns-clause-nothing
returns-clause-nothing c = logged_nothing

pub returns-clause-both : goal.returns-clause-both
returns-clause-both c = logged_both

pub returns-clause-entry : goal.returns-clause-entry
returns-clause-entry c = logged_entry

pub returns-clause-check : goal.returns-clause-check
returns-clause-check c = logged_check

pub returns-clause-estimate : goal.returns-clause-estimate
returns-clause-estimate c = logged_estimate
