use Rattle.wbt_table.specs.Seat.{as_cpu}
use Rattle.wbt_throttle_versions_tests.proofs.versions.load_held.Goals as goal

pub steps-requires : goal.steps-requires
steps-requires c = let h = c.requires.held in record { held = as_cpu h.0 h.1 }
