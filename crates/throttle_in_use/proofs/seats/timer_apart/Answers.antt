use Rattle.std.proofs.Common.{sym, subst}
use Rattle.wbt_table.specs.Seat.{as_timer}
use Rattle.throttle_in_use.proofs.seats.timer_apart.Goals as goal

pub split-requires-clause-held : goal.split-requires-clause-held
split-requires-clause-held c = let t = c.requires.timer in as_timer t.0 (search) t.1
