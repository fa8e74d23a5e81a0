use Rattle.wbt_table.proofs.Common.{add, turn}
use Rattle.wbt_table.proofs.seat.Throttle.add.Given as goal

abbrev pub ghosts-add : goal.ghosts-add
ghosts-add a = record { turn = turn a.self.now.layout (add a.cpu a.counter) a.grants }
