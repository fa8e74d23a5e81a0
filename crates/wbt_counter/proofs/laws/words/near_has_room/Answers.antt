use Rattle.wbt_counter.proofs.WordLaws.{near_has_room}
use Rattle.wbt_counter.proofs.laws.words.near_has_room.Goals as goal

pub returns : goal.returns
returns c = near_has_room
