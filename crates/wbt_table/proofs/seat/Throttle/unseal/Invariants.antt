use Rattle.std.specs.Prelude.{None}
use Rattle.wbt_table.proofs.Common.{unseal, turn}
use Rattle.wbt_table.proofs.seat.Throttle.unseal.Given as goal

abbrev pub ghosts-unseal : goal.ghosts-unseal
ghosts-unseal a = record { turn = turn a.self.now.layout (unseal a.domain) None }
