use Rattle.wbt_replay_cut.proofs.Whole.{others_stand}
use Rattle.wbt_replay_cut.proofs.laws.others_stand.Goals as goal

pub returns : goal.returns
returns c = others_stand
