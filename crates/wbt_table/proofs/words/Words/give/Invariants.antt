use Rattle.std.specs.Prelude.{None}
use Rattle.wbt_table.proofs.Common.{grant, turn}
use Rattle.wbt_table.proofs.words.Words.give.Given as goal

abbrev pub ghosts-grant : goal.ghosts-grant
ghosts-grant a = record { turn = turn a.self.now.layout (grant a.writer a.left) None }
