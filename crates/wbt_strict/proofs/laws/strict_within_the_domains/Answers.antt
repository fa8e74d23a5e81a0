use Rattle.wbt_strict.proofs.Strictly.{within_the_domains}
use Rattle.wbt_strict.proofs.laws.strict_within_the_domains.Goals as goal

pub returns : goal.returns
returns c = within_the_domains
