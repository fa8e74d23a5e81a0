use Rattle.wbt_run_drain.proofs.Passing.{PassesAll}
use Rattle.wbt_run_drain.proofs.drain.pass_all.Given as goal

abbrev pub invariant-cpus : goal.invariant-cpus
invariant-cpus g l = PassesAll (g.C.Clock.told l.hands.clock.now) (g.G.Gate.said l.hands.gate.now) g.D.Disk.written g.D.Disk.faults l.trace l.hands.kit.now
    l.cpu l.cpu-end l.fn.sides l.sides l.fn.seats l.seats l.pass.again
