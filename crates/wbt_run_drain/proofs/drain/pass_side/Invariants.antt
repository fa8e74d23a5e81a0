use Rattle.wbt_run_drain.proofs.Passing.{PassesSide}
use Rattle.wbt_run_drain.proofs.drain.pass_side.Given as goal

abbrev pub invariant-posts : goal.invariant-posts
invariant-posts g l = PassesSide (g.C.Clock.told l.hands.clock.now) (g.G.Gate.said l.hands.gate.now) g.D.Disk.written g.D.Disk.faults l.trace l.hands.kit.now l.cpu
    l.at l.at-end l.fn.sides l.sides l.fn.seats l.seats l.fn.before.again l.pass.again
