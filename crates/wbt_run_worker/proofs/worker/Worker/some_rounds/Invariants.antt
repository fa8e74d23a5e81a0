use Rattle.wbt_run_worker.proofs.MadeRounds.{SoFar}
use Rattle.wbt_run_worker.proofs.worker.Worker.some_rounds.Given as goal

abbrev pub invariant-rounds : goal.invariant-rounds
invariant-rounds g l =
    SoFar l.condition.signals (g.C.Clock.told l.hands.clock.now) (g.G.Gate.said l.hands.gate.now) g.D.Disk.written g.D.Disk.faults l.hands.kit.now l.fn.self l.self
