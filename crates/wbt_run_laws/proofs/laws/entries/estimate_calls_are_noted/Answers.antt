use Rattle.wbt_run_laws.proofs.Calling.{read_tells_nothing, publish_is_told, read_is_newest}
use Rattle.wbt_run_laws.proofs.laws.entries.estimate_calls_are_noted.Goals as goal

pub returns-clause-read : goal.returns-clause-read
returns-clause-read c = read_tells_nothing

pub returns-clause-publish : goal.returns-clause-publish
returns-clause-publish c = publish_is_told

pub returns-clause-newest : goal.returns-clause-newest
returns-clause-newest c = read_is_newest
