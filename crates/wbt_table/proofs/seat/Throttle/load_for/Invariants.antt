use Rattle.wbt_table.proofs.Common.{first, middle, limits, turn}
use Rattle.wbt_table.proofs.seat.Throttle.load_for.Given as goal

abbrev pub ghosts-first : goal.ghosts-first
ghosts-first g a = record { turn = turn a.self.now.layout (first a.cpu a.domain) a.grants }

abbrev pub ghosts-middle : goal.ghosts-middle
ghosts-middle g a = record { turn = turn a.self.now.layout (middle a.cpu a.domain) a.grants }

abbrev pub ghosts-limits : goal.ghosts-limits
ghosts-limits g a = record { turn = turn a.self.now.layout (limits a.who a.domain) a.grants }
