use Rattle.wbt_table.proofs.Common.{mark, turn}
use Rattle.wbt_table.proofs.seat.Throttle.mark_inode.Given as goal

abbrev pub ghosts-mark : goal.ghosts-mark
ghosts-mark a = record { turn = turn a.self.now.layout (mark a.cpu a.inode) a.grants }
