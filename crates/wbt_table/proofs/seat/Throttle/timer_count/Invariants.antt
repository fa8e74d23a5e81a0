use Rattle.std.specs.Prelude.{None}
use Rattle.wbt_table.proofs.Common.{Timer, count, turn}
use Rattle.wbt_table.proofs.seat.Throttle.timer_count.Given as goal

abbrev pub ghosts-timer_count : goal.ghosts-timer_count
ghosts-timer_count a = record { turn = turn a.self.now.layout (count Timer a.counter) None }
