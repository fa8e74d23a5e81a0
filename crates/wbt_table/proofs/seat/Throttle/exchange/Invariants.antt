use Rattle.wbt_table.proofs.Common.{claim, turn}
use Rattle.wbt_table.proofs.seat.Throttle.exchange.Given as goal

abbrev pub ghosts-claim : goal.ghosts-claim
ghosts-claim a = record { turn = turn a.self.now.layout (claim a.cpu a.page) a.grants }
