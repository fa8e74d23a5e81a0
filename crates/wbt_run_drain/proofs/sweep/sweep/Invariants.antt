use Rattle.wbt_run_drain.proofs.Sweeps.{Swept}
use Rattle.wbt_run_drain.proofs.sweep.sweep.Given as goal

abbrev pub invariant-inodes : goal.invariant-inodes
invariant-inodes g l = Swept (g.C.Clock.told l.hands.clock.now) (g.G.Gate.said l.hands.gate.now) g.D.Disk.written g.D.Disk.faults l.trace l.hands.kit.now l.fn.sides l.sides l.fn.seats l.seats l.inode
