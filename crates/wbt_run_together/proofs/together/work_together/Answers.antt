use Rattle.std.proofs.Common.{Bool, ◌++◌, length, sym, ap, ◌∙◌, subst, List, arith}
use Rattle.wbt_run_drain.specs.Standing.{AreStanding}
use Rattle.wbt_fraction.specs.Several.{Seats as ShareSeats}
use Rattle.wbt_run_worker.specs.declared.side.CpuSide.{CpuSide}
use Rattle.wbt_run_together.specs.Gather.{sides_of}
use Rattle.wbt_run_first.specs.Seated.{HasTicked, MakeAll}
use Rattle.wbt_run_together.proofs.Leaving.{all_at, all_may, came_at, comes, has_ticked, left_sealed, may_begin, publishes_none, some_work}
use Rattle.wbt_run_worker.proofs.Common.{Known, TimerSpeaks}
use Rattle.wbt_run_together.proofs.Voicing.{all_left, all_written, signals_of, signals_stay, stops_for}
use Rattle.wbt_run_together.proofs.together.work_together.Goals as goal

pub work_beside-requires-clause-timer : goal.work_beside-requires-clause-timer
work_beside-requires-clause-timer g c κs within = may_begin (g.C.Clock.told c.args.hands.now.clock.now) (g.G.Gate.said c.args.hands.now.gate.now) g.D.Disk.written g.D.Disk.faults c.args.trace.now c.args.now c.args.hands.now.kit.now
    c.requires.lawful c.requires.kit c.args.workers.items c.args.seats.now c.requires.seated
    c.args.timer.now.side c.args.timer.now.log.items c.requires.timer

pub work_beside-requires-clause-workers : goal.work_beside-requires-clause-workers
work_beside-requires-clause-workers g c κs within = all_may (g.C.Clock.told c.args.hands.now.clock.now) (g.G.Gate.said c.args.hands.now.gate.now) g.D.Disk.written g.D.Disk.faults c.args.trace.now c.args.now c.args.hands.now.kit.now
    c.requires.lawful c.requires.kit c.args.workers.items c.args.seats.now c.requires.seated c.args.condition.now.signals c.requires.voiced.each

pub work_beside-requires-clause-voice : goal.work_beside-requires-clause-voice
work_beside-requires-clause-voice g c κs within = c.requires.voiced.its

pub part_workers-cpus-requires-clause-voices : goal.part_workers-cpus-requires-clause-voices
part_workers-cpus-requires-clause-voices g c = (
  c.work_beside.ensures.speaks.its,
  signals_stay (g.C.Clock.told c.args.hands.now.clock.now) (g.G.Gate.said c.args.hands.now.gate.now) g.D.Disk.written g.D.Disk.faults c.args.hands.now.kit.now c.args.condition.now.signals c.args.workers.items c.work_beside.new.workers.items c.work_beside.ensures.many
      c.requires.voiced.each c.work_beside.ensures.worked,
)

pub learn-requires : goal.learn-requires
learn-requires g c = record {
  voice = ap (λ (v : Known). v.signals) c.part_workers-cpus.ensures.voice
      ∙ signals_of c.work_beside.new.workers.items c.work_beside.new.timer.voice ∙ c.work_beside.ensures.speaks.its;
}

pub part_workers-cpus-requires-clause-some : goal.part_workers-cpus-requires-clause-some
part_workers-cpus-requires-clause-some g c =
    let some = some_work (g.C.Clock.told c.args.hands.now.clock.now) (g.G.Gate.said c.args.hands.now.gate.now) g.D.Disk.written g.D.Disk.faults c.args.trace.now c.args.now c.args.hands.now.kit.now
    c.requires.lawful c.requires.kit c.args.workers.items c.args.seats.now c.requires.seated in
    let many = c.work_beside.ensures.many in
    omega (arith, c.work_beside.new.workers.ok.0)

pub part_workers-cpus-requires-clause-seats : goal.part_workers-cpus-requires-clause-seats
part_workers-cpus-requires-clause-seats g c = all_at (g.C.Clock.told c.args.hands.now.clock.now) (g.G.Gate.said c.args.hands.now.gate.now) g.D.Disk.written g.D.Disk.faults c.args.trace.now c.args.now c.args.hands.now.kit.now
    c.requires.lawful c.requires.kit c.args.workers.items c.args.seats.now c.requires.seated
    c.work_beside.new.workers.items c.work_beside.ensures.many c.work_beside.ensures.worked

pub part_workers-cpus-requires-clause-room : goal.part_workers-cpus-requires-clause-room
part_workers-cpus-requires-clause-room g c =
    let many = c.work_beside.ensures.many in
    let none = ap (λ (l : List (CpuSide g.row.D.Denot)). length l) c.requires.none in
    omega (arith, c.requires.room, c.work_beside.new.workers.ok.0, c.args.workers.ok.0, c.args.sides.now.ok.0)

pub take_records-requires : goal.take_records-requires
take_records-requires g c =
    record {
      seats = (
        c.work_beside.ensures.may_tick.seats_are,
        came_at c.args.hands.now.kit.now c.work_beside.new.workers.items c.part_workers-cpus.result c.part_workers-cpus.ensures.together,
      );
    }

pub returns : goal.returns
returns g c =
    let told = g.C.Clock.told c.args.hands.now.clock.now in
    let said = g.G.Gate.said c.args.hands.now.gate.now in
    let e = c.take_records.ensures in
    let ticks = c.work_beside.ensures.ticks in
    let may = c.work_beside.ensures.may_tick in
    let after = c.work_beside.new.seats in
    let all = c.take_records.new.seats in
    let came = comes (g.C.Clock.told c.args.hands.now.clock.now) (g.G.Gate.said c.args.hands.now.gate.now) g.D.Disk.written g.D.Disk.faults c.args.trace.now c.args.now c.args.hands.now.kit.now
    c.requires.lawful c.requires.kit c.args.workers.items c.args.seats.now c.requires.seated
    c.work_beside.new.workers.items c.part_workers-cpus.result after all c.work_beside.ensures.many c.work_beside.ensures.worked c.part_workers-cpus.ensures.together
    ticks.stay may.seats_are may.held
    (record { seats_are = e.seats; records = e.records; came = e.came; stayed = e.stayed; share = e.notes.0; est = e.notes.1; queue = e.queue }) in
    let sealed = left_sealed told said g.D.Disk.written g.D.Disk.faults c.args.trace.now c.args.now c.args.hands.now.kit.now
    c.requires.lawful c.requires.kit c.args.workers.items c.args.seats.now c.requires.seated in
    let spoke = subst (λ (refused : Bool). TimerSpeaks c.args.condition.now.signals refused c.work_beside.new.timer.refused c.args.timer.now.voice c.work_beside.new.timer.voice)
    c.requires.not_refused c.work_beside.ensures.speaks in
    let sides = c.part_workers-cpus.ensures.sides ∙ ap (λ (l : List (CpuSide g.row.D.Denot)). l ++ sides_of c.work_beside.new.workers.items) c.requires.none in
    record {
      standing = subst (λ (l : List (CpuSide g.row.D.Denot)). AreStanding told said g.D.Disk.written g.D.Disk.faults c.args.trace.now c.args.hands.now.kit.now l all) (sym {A = List (CpuSide g.row.D.Denot)} sides) came.standing;
      timer = subst (λ (s : ShareSeats). HasTicked told c.args.trace.now c.args.now c.args.hands.now.kit.now c.work_beside.new.timer.log.items s all) (sym {A = ShareSeats} e.timer.0)
          (has_ticked (g.C.Clock.told c.args.hands.now.clock.now) (g.G.Gate.said c.args.hands.now.gate.now) g.D.Disk.written g.D.Disk.faults c.args.trace.now c.args.now c.args.hands.now.kit.now
          c.requires.lawful c.requires.kit c.args.workers.items c.args.seats.now c.requires.seated
          c.args.timer.now.side c.work_beside.new.timer.side c.args.timer.now.log.items c.work_beside.new.timer.log.items after all c.work_beside.new.timer.halted c.requires.timer ticks
          (c.work_beside.ensures.turned.steps c.requires.not_halted sealed) came.timer_log came.timer);
      stopped = stops_for (g.C.Clock.told c.args.hands.now.clock.now) (g.G.Gate.said c.args.hands.now.gate.now) g.D.Disk.written g.D.Disk.faults c.args.hands.now.kit.now c.args.condition.now.signals c.args.timer.now.voice c.work_beside.new.timer.voice c.part_workers-cpus.new.voice
          c.args.workers.items c.work_beside.new.workers.items c.work_beside.new.timer.refused c.part_workers-cpus.new.sides.items c.requires.voiced c.work_beside.ensures.many
          c.work_beside.ensures.worked
          spoke
          c.part_workers-cpus.ensures.voice c.learn.ensures.cause sides;
      left = ap (λ (v : Known). v.there) c.learn.ensures.same ∙ all_left (g.C.Clock.told c.args.hands.now.clock.now) (g.G.Gate.said c.args.hands.now.gate.now) g.D.Disk.written g.D.Disk.faults c.args.hands.now.kit.now c.args.condition.now.signals c.args.timer.now.voice c.work_beside.new.timer.voice c.part_workers-cpus.new.voice
          c.args.workers.items c.work_beside.new.workers.items c.work_beside.new.timer.refused c.requires.voiced.each c.work_beside.ensures.many c.work_beside.ensures.worked spoke c.part_workers-cpus.ensures.voice c.requires.counted.1;
      written = λ none. ap (λ (v : Known). v.writes) c.learn.ensures.same
          ∙ all_written (g.C.Clock.told c.args.hands.now.clock.now) (g.G.Gate.said c.args.hands.now.gate.now) g.D.Disk.written g.D.Disk.faults c.args.hands.now.kit.now c.args.condition.now.signals c.args.timer.now.voice c.work_beside.new.timer.voice c.part_workers-cpus.new.voice
          c.args.workers.items c.work_beside.new.workers.items c.work_beside.new.timer.refused c.requires.voiced.each c.work_beside.ensures.many c.work_beside.ensures.worked spoke c.part_workers-cpus.ensures.voice c.requires.counted.0
          c.part_workers-cpus.new.sides.items sides none;
      apart = e.apart;
      rights = publishes_none (g.C.Clock.told c.args.hands.now.clock.now) (g.G.Gate.said c.args.hands.now.gate.now) g.D.Disk.written g.D.Disk.faults c.args.trace.now c.args.now c.args.hands.now.kit.now
          c.requires.lawful c.requires.kit c.args.workers.items c.args.seats.now c.requires.seated
          c.take_records.result.est after e.timer.1 ticks.stay;
      complete = subst (λ (s : ShareSeats). MakeAll c.args.hands.now.kit.now s all.share) (sym {A = ShareSeats} e.timer.0) came.complete;
    }
