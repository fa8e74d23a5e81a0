use Rattle.std.proofs.Common.{◌≡◌, length}
use Rattle.wbt_run_worker.proofs.Common.{MayTick, Ticks, TimerSpeaks}
use Rattle.wbt_run_worker.specs.TimerTurns.{HasTakenTurns}
use Rattle.wbt_run_beside.specs.Beside.{AllHaveGone}
use Rattle.wbt_run_beside.proofs.beside.work_all.Given as goal

abbrev pub invariant-turns : goal.invariant-turns
invariant-turns g l =
    (goal.iterator-turns g).can_next l.iterator' × (goal.iterator-turns g).is_finite l.iterator'
    × MayTick l.hands.kit.now l.timer.side l.seats
    × Ticks (g.C.Clock.told l.hands.clock.now) l.fn.timer.side l.timer.side l.fn.seats l.seats l.fn.timer.log.items l.timer.log.items
    × (length l.workers ≡ length l.fn.workers)
    × AllHaveGone l.condition.signals (g.C.Clock.told l.hands.clock.now) (g.G.Gate.said l.hands.gate.now) g.D.Disk.written g.D.Disk.faults l.hands.kit.now l.fn.workers l.workers
    × TimerSpeaks l.condition.signals l.fn.timer.refused l.timer.refused l.fn.timer.voice l.timer.voice
    × HasTakenTurns (g.C.Clock.told l.hands.clock.now) (g.G.Gate.said l.hands.gate.now) l.hands.kit.now l.fn.timer l.timer l.fn.seats l.seats
