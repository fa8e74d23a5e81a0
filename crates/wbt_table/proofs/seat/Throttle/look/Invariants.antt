use Rattle.wbt_table.proofs.Common.{look, turn}
use Rattle.wbt_table.proofs.seat.Throttle.look.Given as goal

abbrev pub ghosts-look : goal.ghosts-look
ghosts-look a = record { turn = turn a.self.now.layout (look a.cpu a.page) a.grants }
