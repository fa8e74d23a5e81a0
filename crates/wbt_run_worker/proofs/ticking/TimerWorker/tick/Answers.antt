use Rattle.std.proofs.Common.{Bool, inr, refl, subst}
use Rattle.wbt_run_worker.specs.TimerTurns.{TakesATurn}
use Rattle.wbt_run_worker.proofs.Speaking.{timer_more, timer_now}
use Rattle.wbt_run_worker.proofs.Ticks.{ready_still, ticks_more, ticks_now}
use Rattle.wbt_run_worker.proofs.TimerTurns.{cut_off, gone_looked, gone_nowhere, leaves_cut, to_the_end, turned_on}
use Rattle.wbt_run_worker.proofs.ticking.TimerWorker.tick.Goals as goal

pub loop-init : goal.loop-init
loop-init g c = (
  tt,
  tt,
  c.requires.may,
  ticks_now (g.C.Clock.told c.args.hands.now.clock.now) c.args.self.now.side c.args.seats.now c.args.self.now.log.items,
  timer_now c.args.condition.now.signals c.args.self.now.refused c.args.self.now.voice c.requires.voice,
  gone_nowhere (g.C.Clock.told c.args.hands.now.clock.now) (g.G.Gate.said c.args.hands.now.gate.now) c.args.hands.now.kit.now c.args.self.now c.args.seats.now,
)

pub turn_and_rest-requires-clause-voice : goal.turn_and_rest-requires-clause-voice
turn_and_rest-requires-clause-voice g c = c.loop.invariant.4.its

pub is_to_leave-requires : goal.is_to_leave-requires
is_to_leave-requires g c = record { voice = c.turn_and_rest.ensures.speaks.its }

pub loop-preserved : goal.loop-preserved
loop-preserved g c =
    let told = g.C.Clock.told c.args.hands.now.clock.now in
    let said = g.G.Gate.said c.args.hands.now.gate.now in
    let kit = c.args.hands.now.kit.now in
    let signals = c.args.condition.now.signals in
    let was = c.args.self.now in
    let mid = c.loop.self in
    let new = c.turn_and_rest.new.self in
    let i = c.loop.invariant in
    let e = c.turn_and_rest.ensures in (
      tt,
      tt,
      e.may,
      ticks_more told was.side mid.side new.side c.args.seats.now c.loop.seats c.turn_and_rest.new.seats was.log.items mid.log.items new.log.items i.3 e.ticks,
      timer_more signals was.refused new.refused new.refused was.voice new.voice c.is_to_leave.new.voice
          (timer_more signals was.refused mid.refused new.refused was.voice mid.voice new.voice i.4 e.speaks) (c.is_to_leave.ensures.speaks new.refused),
      gone_looked told said kit was new (record new { in_turn = c.is_to_leave.new.in_turn; voice = c.is_to_leave.new.voice }) c.args.seats.now c.turn_and_rest.new.seats refl refl refl c.is_to_leave.ensures.rings
          (turned_on told said kit was mid new c.args.seats.now c.loop.seats c.turn_and_rest.new.seats i.5
          (subst (λ (goes_on : Bool). TakesATurn told said kit goes_on mid new c.loop.seats c.turn_and_rest.new.seats) c.if-not-turn_and_rest.false e.turn)).gone,
    )

pub returns-then-not-turn_and_rest : goal.returns-then-not-turn_and_rest
returns-then-not-turn_and_rest g c =
    let told = g.C.Clock.told c.args.hands.now.clock.now in
    let said = g.G.Gate.said c.args.hands.now.gate.now in
    let kit = c.args.hands.now.kit.now in
    let was = c.args.self.now in
    let mid = c.loop.self in
    let new = c.turn_and_rest.new.self in
    let i = c.loop.invariant in
    let e = c.turn_and_rest.ensures in
    let ticks = ticks_more told was.side mid.side new.side c.args.seats.now c.loop.seats c.turn_and_rest.new.seats was.log.items mid.log.items new.log.items i.3 e.ticks in
    let took = subst (λ (goes_on : Bool). TakesATurn told said kit goes_on mid new c.loop.seats c.turn_and_rest.new.seats) c.if-not-turn_and_rest.true e.turn in
    record {
      ticks = ticks;
      may = e.may;
      ready = λ trace ready. ready_still told kit trace was.side new.side c.args.seats.now c.turn_and_rest.new.seats was.log.items new.log.items ticks e.may ready;
      turns = cut_off told said kit was mid new c.args.seats.now c.loop.seats c.turn_and_rest.new.seats i.5 took;
      speaks = timer_more c.args.condition.now.signals was.refused mid.refused new.refused was.voice mid.voice new.voice i.4 e.speaks;
      leaves = leaves_cut told said kit mid new c.loop.seats c.turn_and_rest.new.seats took;
    }

pub returns-then-is_to_leave : goal.returns-then-is_to_leave
returns-then-is_to_leave g c =
    let told = g.C.Clock.told c.args.hands.now.clock.now in
    let said = g.G.Gate.said c.args.hands.now.gate.now in
    let kit = c.args.hands.now.kit.now in
    let signals = c.args.condition.now.signals in
    let was = c.args.self.now in
    let mid = c.loop.self in
    let new = c.turn_and_rest.new.self in
    let i = c.loop.invariant in
    let e = c.turn_and_rest.ensures in
    let l = c.is_to_leave.ensures in
    let cause = l.cause c.if-is_to_leave.true in
    let ticks = ticks_more told was.side mid.side new.side c.args.seats.now c.loop.seats c.turn_and_rest.new.seats was.log.items mid.log.items new.log.items i.3 e.ticks in
    let took = subst (λ (goes_on : Bool). TakesATurn told said kit goes_on mid new c.loop.seats c.turn_and_rest.new.seats) c.if-not-turn_and_rest.false e.turn in
    record {
      ticks = ticks;
      may = e.may;
      ready = λ trace ready. ready_still told kit trace was.side new.side c.args.seats.now c.turn_and_rest.new.seats was.log.items new.log.items ticks e.may ready;
      turns = to_the_end told said kit was new (record new { in_turn = c.is_to_leave.new.in_turn; voice = c.is_to_leave.new.voice }) c.args.seats.now c.turn_and_rest.new.seats
          (turned_on told said kit was mid new c.args.seats.now c.loop.seats c.turn_and_rest.new.seats i.5 took) refl refl refl l.rings cause;
      speaks = timer_more signals was.refused new.refused new.refused was.voice new.voice c.is_to_leave.new.voice
          (timer_more signals was.refused mid.refused new.refused was.voice mid.voice new.voice i.4 e.speaks) (l.speaks new.refused);
      leaves = inr (inr cause);
    }
