use Rattle.wbt_table.proofs.Common.{count, turn}
use Rattle.wbt_table.proofs.seat.Throttle.count_for.Given as goal

abbrev pub ghosts-count : goal.ghosts-count
ghosts-count a = record { turn = turn a.self.now.layout (count a.who a.counter) a.grants }
