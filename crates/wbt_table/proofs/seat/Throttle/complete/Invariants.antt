use Rattle.wbt_table.proofs.Common.{complete, turn}
use Rattle.wbt_table.proofs.seat.Throttle.complete.Given as goal

abbrev pub ghosts-complete : goal.ghosts-complete
ghosts-complete a = record { turn = turn a.self.now.layout (complete a.cpu a.page) a.grants }
