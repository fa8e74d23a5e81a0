use Rattle.wbt_fraction.proofs.Knowing.{own_order}
use Rattle.wbt_fraction.proofs.laws.order_is_own.Goals as goal

pub returns : goal.returns
returns c = own_order
