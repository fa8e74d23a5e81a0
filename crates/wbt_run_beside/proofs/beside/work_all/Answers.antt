use Rattle.std.proofs.Common.{arith, rules}
use Rattle.wbt_run_worker.proofs.Speaking.{timer_more}
use Rattle.wbt_run_worker.proofs.Ticks.{ticks_more}
use Rattle.wbt_run_worker.proofs.TimerTurns.{turned_more, turned_some}
use Rattle.wbt_run_beside.proofs.Onward.{all_go_further, all_may_go, all_worked, each_ended, their_signals}
use Rattle.wbt_run_beside.proofs.beside.work_all.Goals as goal

pub serve_workers-requires-clause-workers : goal.serve_workers-requires-clause-workers
serve_workers-requires-clause-workers g c κs within = all_may_go c.args.condition.now.signals (g.C.Clock.told c.args.hands.now.clock.now) (g.G.Gate.said c.args.hands.now.gate.now)
    g.D.Disk.written g.D.Disk.faults c.args.hands.now.kit.now c.args.workers.now c.turns.workers c.turns.invariant.4 c.turns.invariant.5

pub tick_once-requires-clause-voice : goal.tick_once-requires-clause-voice
tick_once-requires-clause-voice g c = c.turns.invariant.6.its

pub returns-then-all_ended-clause-worked : goal.returns-then-all_ended-clause-worked
returns-then-all_ended-clause-worked g c = all_worked c.args.condition.now.signals (g.C.Clock.told c.args.hands.now.clock.now) (g.G.Gate.said c.args.hands.now.gate.now)
    g.D.Disk.written g.D.Disk.faults c.args.hands.now.kit.now c.args.workers.now c.turns.workers c.turns.invariant.4
    (their_signals c.args.condition.now.signals (g.C.Clock.told c.args.hands.now.clock.now) (g.G.Gate.said c.args.hands.now.gate.now) g.D.Disk.written g.D.Disk.faults c.args.hands.now.kit.now c.args.workers.now c.requires.workers)
    (each_ended c.turns.workers (search rules)) c.turns.invariant.5

pub turns-preserved : goal.turns-preserved
turns-preserved g c =
    let i = c.turns.invariant in
    let t = c.tick_once.ensures in (
      tt,
      tt,
      t.may,
      ticks_more (g.C.Clock.told c.args.hands.now.clock.now) c.args.timer.now.side c.turns.timer.side c.tick_once.new.self.side
          c.args.seats.now c.turns.seats c.tick_once.new.seats c.args.timer.now.log.items c.turns.timer.log.items c.tick_once.new.self.log.items i.3 t.ticks,
      omega (arith, c.serve_workers.auto.workers, c.turns.invariant.4),
      all_go_further c.args.condition.now.signals (g.C.Clock.told c.args.hands.now.clock.now) (g.G.Gate.said c.args.hands.now.gate.now) g.D.Disk.written g.D.Disk.faults c.args.hands.now.kit.now
          c.args.workers.now c.turns.workers c.serve_workers.new.workers i.4 i.5 c.serve_workers.ensures.went,
      timer_more c.args.condition.now.signals c.args.timer.now.refused c.turns.timer.refused c.tick_once.new.self.refused c.args.timer.now.voice c.turns.timer.voice c.tick_once.new.self.voice
          i.6 t.speaks,
      turned_more (g.C.Clock.told c.args.hands.now.clock.now) (g.G.Gate.said c.args.hands.now.gate.now) c.args.hands.now.kit.now c.args.timer.now c.turns.timer c.tick_once.new.self
          c.args.seats.now c.turns.seats c.tick_once.new.seats i.7 t.turns,
    )

pub turns-init : goal.turns-init
turns-init g c =
    let e = c.join_workers.ensures in (
      tt,
      tt,
      e.may_tick,
      e.ticks,
      c.join_workers.auto.workers,
      e.worked,
      e.speaks,
      turned_some (g.C.Clock.told c.args.hands.now.clock.now) (g.G.Gate.said c.args.hands.now.gate.now) c.args.hands.now.kit.now c.args.timer.now c.join_workers.new.timer c.args.seats.now c.join_workers.new.seats e.turned,
    )
