use Rattle.wbt_run_worker.proofs.Common.{MayTick, Ticks, TimerSpeaks}
use Rattle.wbt_run_worker.proofs.TimerTurns.{HasGoneOn}
use Rattle.wbt_run_worker.proofs.ticking.TimerWorker.tick.Given as goal

abbrev pub invariant-loop : goal.invariant-loop
invariant-loop g l =
    (goal.iterator-loop g).can_next l.iterator' × (goal.iterator-loop g).is_finite l.iterator'
    × MayTick l.hands.kit.now l.self.side l.seats × Ticks (g.C.Clock.told l.hands.clock.now) l.fn.self.side l.self.side l.fn.seats l.seats l.fn.self.log.items l.self.log.items
    × TimerSpeaks l.condition.signals l.fn.self.refused l.self.refused l.fn.self.voice l.self.voice
    × HasGoneOn (g.C.Clock.told l.hands.clock.now) (g.G.Gate.said l.hands.gate.now) l.hands.kit.now l.fn.self l.self l.fn.seats l.seats
