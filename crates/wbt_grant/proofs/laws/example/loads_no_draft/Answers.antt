use Rattle.wbt_grant.proofs.Example.{loads_no_draft}
use Rattle.wbt_grant.proofs.laws.example.loads_no_draft.Goals as goal

pub returns : goal.returns
returns c = loads_no_draft
