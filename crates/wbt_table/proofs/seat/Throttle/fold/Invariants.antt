use Rattle.wbt_table.proofs.Common.{fold, turn}
use Rattle.wbt_table.proofs.seat.Throttle.fold.Given as goal

abbrev pub ghosts-fold : goal.ghosts-fold
ghosts-fold a = record { turn = turn a.self.now.layout (fold a.cpu a.counter) a.grants }
