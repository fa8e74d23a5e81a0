use Rattle.wbt_replay_cut.proofs.Whole.{forgotten_is_cut}
use Rattle.wbt_replay_cut.proofs.laws.forgotten_is_cut.Goals as goal

pub returns : goal.returns
returns c = forgotten_is_cut
