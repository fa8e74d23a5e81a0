use Rattle.wbt_run_laws.proofs.Calling.{looks_add_none, add_is_noted, read_may_be_kept, begin_is_noted}
use Rattle.wbt_run_laws.proofs.laws.entries.share_calls_are_noted.Goals as goal

pub returns-clause-looks : goal.returns-clause-looks
returns-clause-looks c = looks_add_none

pub returns-clause-add : goal.returns-clause-add
returns-clause-add c = add_is_noted

pub returns-clause-read : goal.returns-clause-read
returns-clause-read c = read_may_be_kept

pub returns-clause-begins : goal.returns-clause-begins
returns-clause-begins c = begin_is_noted
