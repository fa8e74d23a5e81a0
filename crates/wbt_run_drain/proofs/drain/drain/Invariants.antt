use Rattle.wbt_run_drain.specs.Standing.{AreStanding, WentOn}
use Rattle.wbt_run_drain.specs.Turned.{NoneRefusedMore}
use Rattle.wbt_run_drain.proofs.drain.drain.Given as goal

abbrev pub invariant-passes : goal.invariant-passes
invariant-passes g l =
    (goal.iterator-passes g).can_next l.iterator' × (goal.iterator-passes g).is_finite l.iterator'
    × AreStanding (g.C.Clock.told l.hands.clock.now) (g.G.Gate.said l.hands.gate.now) g.D.Disk.written g.D.Disk.faults l.trace l.hands.kit.now l.sides l.seats
    × WentOn l.trace l.fn.sides l.sides l.fn.seats l.seats
    × NoneRefusedMore l.fn.sides l.sides
