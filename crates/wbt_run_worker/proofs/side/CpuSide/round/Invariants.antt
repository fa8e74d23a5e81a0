use Rattle.std.proofs.Common.{◌≡◌}
use Rattle.wbt_run_worker.proofs.Common.{team_of, StandsStay}
use Rattle.wbt_run_worker.proofs.Rotating.{Passing}
use Rattle.wbt_run_worker.proofs.Rounding.{SoFar}
use Rattle.wbt_run_worker.proofs.side.CpuSide.round.Given as goal

abbrev pub invariant-loop-job : goal.invariant-loop-job
invariant-loop-job g l =
    SoFar (g.C.Clock.told l.hands.clock.now) l.fn.self.writers.trace l.fn.self.writers.cpu l.hands.kit.now
    (team_of g.D.Disk.written g.D.Disk.faults l.fn.self) (team_of g.D.Disk.written g.D.Disk.faults l.self) l.fn.seats l.seats l.writes
    × StandsStay l.fn.self.posts.items l.self.posts.items
    × Passing (g.C.Clock.told l.hands.clock.now) (g.G.Gate.said l.hands.gate.now) l.hands.kit.now l.fn.self.next l.next l._job l.ticks l.writes
    (team_of g.D.Disk.written g.D.Disk.faults l.fn.self) (team_of g.D.Disk.written g.D.Disk.faults l.self) l.fn.seats l.seats
    × (l.self.next ≡ l.fn.self.next)
