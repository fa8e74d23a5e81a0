use Rattle.wbt_attained.proofs.Whole.{attained_on_few_cpus}
use Rattle.wbt_attained.proofs.laws.attained_on_few_cpus.Goals as goal

pub returns : goal.returns
returns c = attained_on_few_cpus
