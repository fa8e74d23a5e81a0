use Rattle.wbt_fraction.proofs.Parting.{has_room}
use Rattle.wbt_fraction.proofs.laws.splitter_has_room.Goals as goal

pub returns : goal.returns
returns c = has_room
