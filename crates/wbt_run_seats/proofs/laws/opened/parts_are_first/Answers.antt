use Rattle.wbt_run_seats.proofs.Firsts.{first_can_split, part_is_first, left_is_first}
use Rattle.wbt_run_seats.proofs.laws.opened.parts_are_first.Goals as goal

pub returns-clause-splits : goal.returns-clause-splits
returns-clause-splits c = first_can_split

pub returns-clause-part : goal.returns-clause-part
returns-clause-part c = part_is_first

pub returns-clause-left : goal.returns-clause-left
returns-clause-left c = left_is_first
