use Rattle.std.proofs.Common.{refl, arith}
use Rattle.wbt_run_worker.proofs.Speaking.{timer_now, timer_refused}
use Rattle.wbt_run_worker.proofs.Ticks.{goes_on, ticks_now}
use Rattle.wbt_run_worker.proofs.TimerTurns.{goes_after, rang_once, takes_on}
use Rattle.wbt_run_worker.proofs.ticking.TimerWorker.take_turn.Goals as goal

pub returns-in-Halted : goal.returns-in-Halted
returns-in-Halted g c =
    let told = g.C.Clock.told c.args.hands.now.clock.now in
    let old = c.args.self.now.side in
    let seats = c.args.seats.now in
    let log = c.args.self.now.log.items in
    let e = c.in-Halted.ensures in
    let both = goes_on told c.args.hands.now.kit.now c.turn.result old old c.turn.new.self seats seats c.turn.new.seats log log c.turn.new.log.items
    c.requires.may (ticks_now told old seats log) c.turn.ensures.answers c.turn.ensures.seats in
    record {
      ticks = both.1;
      may = both.0;
      turn = record { is = record { answers = e.answers; let_on = record { asked = e.asked; stopped = e.stopped }; steps = e.steps }; refused = refl; halted = refl; rings = omega arith };
      speaks = timer_now c.args.condition.now.signals c.args.self.now.refused c.args.self.now.voice c.requires.voice;
    }

pub returns-in-NoMemory : goal.returns-in-NoMemory
returns-in-NoMemory g c =
    let told = g.C.Clock.told c.args.hands.now.clock.now in
    let old = c.args.self.now.side in
    let seats = c.args.seats.now in
    let log = c.args.self.now.log.items in
    let e = c.in-NoMemory.ensures in
    let both = goes_on told c.args.hands.now.kit.now c.turn.result old old c.turn.new.self seats seats c.turn.new.seats log log c.turn.new.log.items
    c.requires.may (ticks_now told old seats log) c.turn.ensures.answers c.turn.ensures.seats in
    record {
      ticks = both.1;
      may = both.0;
      turn = record {
        is = record { answers = e.answers; let_on = record { asked = e.asked; stopped = e.stopped }; steps = e.steps };
        refused = refl;
        halted = refl;
        rings = rang_once c.args.self.now.voice c.ring.new.voice c.ring.ensures.rang;
      };
      speaks = timer_refused c.args.condition.now.signals c.args.self.now.refused c.args.self.now.voice c.ring.new.voice c.requires.voice c.ring.ensures.rang;
    }

pub returns-in_default : goal.returns-in_default
returns-in_default g c =
    let told = g.C.Clock.told c.args.hands.now.clock.now in
    let kit = c.args.hands.now.kit.now in
    let was = c.args.self.now in
    let seats = c.args.seats.now in
    let log = was.log.items in
    let e = c.turn.ensures in
    let both = goes_on told kit c.turn.result was.side was.side c.turn.new.self seats seats c.turn.new.seats log log c.turn.new.log.items
    c.requires.may (ticks_now told was.side seats log) e.answers e.seats in
    record {
      ticks = both.1;
      may = both.0;
      turn = takes_on told (g.G.Gate.said c.args.hands.now.gate.now) kit c.turn.result was (record { side = c.turn.new.self; log = c.turn.new.log; refused = was.refused; halted = was.halted; in_turn = was.in_turn; voice = was.voice })
          seats c.turn.new.seats (record { answers = e.answers; let_on = record { asked = e.asked; stopped = e.stopped }; steps = e.steps }) (goes_after c.turn.result c.in_default.not-NoMemory c.in_default.not-Halted) refl refl refl;
      speaks = timer_now c.args.condition.now.signals was.refused was.voice c.requires.voice;
    }
