use Rattle.std.specs.Prelude.{None}
use Rattle.wbt_table.proofs.Common.{peak, turn}
use Rattle.wbt_table.proofs.seat.Throttle.raise_peak.Given as goal

abbrev pub ghosts-raise : goal.ghosts-raise
ghosts-raise a = record { turn = turn a.self.now.layout (peak a.domain a.hard) None }
