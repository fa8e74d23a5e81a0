use Rattle.wbt_timer.proofs.Made.{publishes_all}
use Rattle.wbt_timer.proofs.laws.whole_turn_publishes_all.Goals as goal

pub returns : goal.returns
returns c = publishes_all
