use Rattle.wbt_table.specs.Seat.{as_cpu}
use Rattle.wbt_throttle_threads_tests.proofs.between.claim_letting_in.Goals as goal

pub steps-requires : goal.steps-requires
steps-requires c = let h = c.requires.seat.held in record { held = as_cpu h.0 h.1 }
