use Rattle.wbt_table.proofs.Common.{unmark, turn}
use Rattle.wbt_table.proofs.seat.Throttle.clear_inode.Given as goal

abbrev pub ghosts-unmark : goal.ghosts-unmark
ghosts-unmark a = record { turn = turn a.self.now.layout (unmark a.cpu a.inode) a.grants }
