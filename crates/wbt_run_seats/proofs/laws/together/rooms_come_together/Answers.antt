use Rattle.wbt_run_seats.proofs.Rooming.{together_are_backed, backed_has_rooms, taken_are_backed}
use Rattle.wbt_run_seats.proofs.laws.together.rooms_come_together.Goals as goal

pub returns-clause-together : goal.returns-clause-together
returns-clause-together c = together_are_backed

pub returns-clause-flusher : goal.returns-clause-flusher
returns-clause-flusher c = backed_has_rooms

pub returns-clause-taken : goal.returns-clause-taken
returns-clause-taken c = taken_are_backed
