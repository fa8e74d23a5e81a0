use Rattle.wbt_grant.proofs.Example.{given_back_as_dirty}
use Rattle.wbt_grant.proofs.laws.example.given_back_as_dirty.Goals as goal

pub returns : goal.returns
returns c = given_back_as_dirty
