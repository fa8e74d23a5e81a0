use Rattle.wbt_table.proofs.Common.{dirty, turn}
use Rattle.wbt_table.proofs.seat.Throttle.dirty_for.Given as goal

abbrev pub ghosts-dirty : goal.ghosts-dirty
ghosts-dirty a = record { turn = turn a.self.now.layout (dirty a.writer a.page) a.grants }
