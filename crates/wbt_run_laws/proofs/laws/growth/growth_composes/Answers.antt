use Rattle.wbt_run_laws.proofs.Growing.{by_nothing, by_both, is_fresh, serves_once}
use Rattle.wbt_run_laws.proofs.laws.growth.growth_composes.Goals as goal

pub returns-clause-nothing : goal.returns-clause-nothing
returns-clause-nothing c = by_nothing

pub returns-clause-both : goal.returns-clause-both
returns-clause-both c = by_both

pub returns-clause-fresh : goal.returns-clause-fresh
returns-clause-fresh c = is_fresh

pub returns-clause-serves_once : goal.returns-clause-serves_once
returns-clause-serves_once c = serves_once
