use Rattle.std.specs.Prelude.{None}
use Rattle.wbt_table.proofs.Common.{thresh, turn}
use Rattle.wbt_table.proofs.seat.Throttle.draft.Given as goal

abbrev pub ghosts-thresh : goal.ghosts-thresh
ghosts-thresh a = record { turn = turn a.self.now.layout (thresh a.domain a.triple) None }
