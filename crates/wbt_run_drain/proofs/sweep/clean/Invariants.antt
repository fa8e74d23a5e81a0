use Rattle.wbt_run_drain.specs.Swept.{WasPut}
use Rattle.wbt_run_drain.proofs.Sweeps.{Sweeps}
use Rattle.wbt_run_drain.proofs.sweep.clean.Given as goal

abbrev pub invariant-marked : goal.invariant-marked
invariant-marked g l =
    (goal.iterator-marked g).can_next l.iterator' × (goal.iterator-marked g).is_finite l.iterator'
    × Sweeps (g.C.Clock.told l.hands.clock.now) (g.G.Gate.said l.hands.gate.now) g.D.Disk.written g.D.Disk.faults l.trace l.hands.kit.now l.fn.sides l.sides l.fn.seats l.seats
    × WasPut l.trace l.hands.kit.now l.inode l.fn.seats.queue l.seats.queue
