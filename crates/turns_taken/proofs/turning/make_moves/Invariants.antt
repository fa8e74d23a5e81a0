use Rattle.wbt_run_worker.specs.Side.{IsSide}
use Rattle.wbt_run_worker.specs.Team.{team_of}
use Rattle.turns_taken.proofs.turning.make_moves.Given as goal

abbrev pub invariant-moves : goal.invariant-moves
invariant-moves g l = IsSide l.side.writers.trace l.side.writers.cpu l.hands.kit.now (team_of g.D.Disk.written g.D.Disk.faults l.side) l.seats
