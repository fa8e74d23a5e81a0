use Rattle.std.specs.Prelude.{None}
use Rattle.wbt_table.proofs.Common.{publish, turn}
use Rattle.wbt_table.proofs.seat.Throttle.seal.Given as goal

abbrev pub ghosts-publish : goal.ghosts-publish
ghosts-publish a = record { turn = turn a.self.now.layout (publish a.domain a.triple) None }
