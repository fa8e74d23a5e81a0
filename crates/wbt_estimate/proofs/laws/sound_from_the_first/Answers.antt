use Rattle.wbt_estimate.proofs.Folding.{sound_from_the_first}
use Rattle.wbt_estimate.proofs.laws.sound_from_the_first.Goals as goal

pub returns : goal.returns
returns c = sound_from_the_first
