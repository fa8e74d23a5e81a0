use Rattle.wbt_table.proofs.Common.{back, turn}
use Rattle.wbt_table.proofs.seat.Throttle.put_back.Given as goal

abbrev pub ghosts-back : goal.ghosts-back
ghosts-back a = record { turn = turn a.self.now.layout (back a.cpu a.page) a.grants }
