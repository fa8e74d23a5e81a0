use Rattle.wbt_table.specs.Seat.{as_cpu}
use Rattle.throttle_in_use.proofs.calls.steps_of.Goals as goal

pub steps-requires : goal.steps-requires
steps-requires c = let h = c.requires.held in record { held = as_cpu h.0 h.1 }
