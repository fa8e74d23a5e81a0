use Rattle.wbt_estimate.proofs.Folding.{stays_sound}
use Rattle.wbt_estimate.proofs.laws.stays_sound.Goals as goal

pub returns : goal.returns
returns c = stays_sound
