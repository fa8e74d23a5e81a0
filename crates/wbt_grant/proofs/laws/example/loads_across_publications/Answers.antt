use Rattle.wbt_grant.proofs.Example.{loads_across_publications}
use Rattle.wbt_grant.proofs.laws.example.loads_across_publications.Goals as goal

pub returns : goal.returns
returns c = loads_across_publications
