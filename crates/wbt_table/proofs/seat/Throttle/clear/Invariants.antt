use Rattle.wbt_table.proofs.Common.{clear, turn}
use Rattle.wbt_table.proofs.seat.Throttle.clear.Given as goal

abbrev pub ghosts-clear : goal.ghosts-clear
ghosts-clear a = record { turn = turn a.self.now.layout (clear a.cpu a.counter) a.grants }
