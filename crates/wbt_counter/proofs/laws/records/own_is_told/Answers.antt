use Rattle.wbt_counter.proofs.Recorded.{own_is_told}
use Rattle.wbt_counter.proofs.laws.records.own_is_told.Goals as goal

pub returns : goal.returns
returns c = own_is_told
