use Rattle.wbt_replay_cut.proofs.Order.{advance_is_cut}
use Rattle.wbt_replay_cut.proofs.laws.advance_is_cut.Goals as goal

pub returns : goal.returns
returns c = advance_is_cut
