use Rattle.std.proofs.Common.{ap, refl}
use Rattle.wbt_flusher.proofs.Common.{complete, setting, Seats, asked_more, asked_none, asked_once, once_made, sight, Halted, Spent, makes_as}
use Rattle.wbt_run_steps.proofs.Asking.{stopped_by}
use Rattle.wbt_flusher.proofs.Ending.{ends_after, flight_stands}
use Rattle.wbt_flusher.proofs.Flown.{comes_down}
use Rattle.wbt_flusher.proofs.Going.{goes_nowhere}
use Rattle.std.proofs.Common.{refl}
use Rattle.wbt_flusher.specs.Cut.{among_its_folds, before_its_page}
use Rattle.wbt_flusher.proofs.Turning.{turn_completes, turn_rests}
use Rattle.wbt_flusher.proofs.Events.{owes_completed}
use Rattle.wbt_flusher.proofs.plan.FlusherPlan.turn_flight.Goals as goal

pub returns-then-not-may_step-clause-ends : goal.returns-then-not-may_step-clause-ends
returns-then-not-may_step-clause-ends g c drain moments written = record {
  went = goes_nowhere c.args.self.now c.args.hands.now.kit.now c.args.seats.now c.requires.ready.fits moments c.args.work.now c.args.pen.now.log written;
  stands = flight_stands c.args.work.now.phase c.args.flight c.requires.phase;
  stopped = stopped_by c.args.self.now.cpu (g.G.Gate.said c.args.hands.now.gate.now) c.may_step.result c.args.seats.now c.may_step.ensures c.if-not-may_step.true;
}

pub returns-then-not-may_step-clause-asked : goal.returns-then-not-may_step-clause-asked
returns-then-not-may_step-clause-asked g c = asked_none c.args.self.now.cpu (g.G.Gate.said c.args.hands.now.gate.now) c.args.seats.now c.args.seats.now refl

pub returns-in-Err-clause-asked : goal.returns-in-Err-clause-asked
returns-in-Err-clause-asked g c = asked_none c.args.self.now.cpu (g.G.Gate.said c.args.hands.now.gate.now) c.args.seats.now c.complete.new.seats (ap (λ (s : Seats). s.cpu) c.in-Err.ensures.spent.1)

pub returns-in-Ok-clause-asked : goal.returns-in-Ok-clause-asked
returns-in-Ok-clause-asked g c =
    let d = c.in-Ok.ensures.completes in
    asked_more c.args.self.now.cpu (g.G.Gate.said c.args.hands.now.gate.now) c.args.seats.now c.complete.new.seats c.land.new.seats
    (asked_once c.args.self.now.cpu (g.G.Gate.said c.args.hands.now.gate.now) c.may_step.result c.args.seats.now c.complete.new.seats c.may_step.ensures c.if-not-may_step.false
    (once_made (setting c.args.hands.now.kit.now.throttle.layout) (complete c.args.self.now.cpu d.page) d.found c.args.self.now.cpu c.args.seats.now c.complete.new.seats refl c.requires.ready.fits.held d.makes))
    (c.land.ensures.asked)

pub land-requires-clause-down : goal.land-requires-clause-down
land-requires-clause-down g c =
    comes_down c.args.self.now c.args.hands.now.kit.now c.args.seats.now c.complete.new.seats c.args.work.now c.complete.new.work c.args.pen.now.log c.complete.new.pen.log c.args.flight
    c.requires.ready c.requires.phase c.complete.ensures.goes c.in-Ok.ensures.next c.complete.ensures.fits c.in-Ok.ensures.owed

pub returns-in-Ok-clause-ends : goal.returns-in-Ok-clause-ends
returns-in-Ok-clause-ends g c drain moments written =
    ends_after c.args.self.now c.args.hands.now.kit.now moments (g.G.Gate.said c.args.hands.now.gate.now) (sight c.args.work.now c.args.seats.now c.args.pen.now.log written) (sight c.complete.new.work c.complete.new.seats c.complete.new.pen.log written)
    (sight c.land.new.work c.land.new.seats c.land.new.pen.log written) (c.complete.ensures.goes moments written) drain ⊥ c.land.result (c.land.ensures.ends drain moments written)

pub returns-in-Ok-clause-lands : goal.returns-in-Ok-clause-lands
returns-in-Ok-clause-lands g c is written = record {
  completed = sight c.complete.new.work c.complete.new.seats c.complete.new.pen.log written;
  completes = c.in-Ok.ensures.completes;
  work = c.in-Ok.ensures.next;
  lands = c.land.ensures.lands is written;
}

pub returns-then-not-may_step-clause-halts : goal.returns-then-not-may_step-clause-halts
returns-then-not-may_step-clause-halts g c is written = before_its_page (record { seats = refl; work = refl; told = refl })

pub returns-in-Err-clause-spends : goal.returns-in-Err-clause-spends
returns-in-Err-clause-spends g c is written = record { seats = c.in-Err.ensures.spent.1; work = c.in-Err.ensures.spent.0; told = c.in-Err.ensures.untold }

pub returns-in-Ok-clause-halts : goal.returns-in-Ok-clause-halts
returns-in-Ok-clause-halts g c is written =
    let h = c.land.ensures.halts is in
    among_its_folds (sight c.complete.new.work c.complete.new.seats c.complete.new.pen.log written) c.in-Ok.ensures.completes c.in-Ok.ensures.next h.0 h.1

pub returns-in-Ok-clause-spends : goal.returns-in-Ok-clause-spends
returns-in-Ok-clause-spends g c is written = absurd (c.land.ensures.unspent is)

-- ---- kinds of steps

pub land-requires-clause-event : goal.land-requires-clause-event
land-requires-clause-event g c =
    let d = c.in-Ok.ensures.completes in
    owes_completed c.args.self.now c.args.hands.now.kit.now d.page d.found c.args.seats.now c.complete.new.seats c.requires.ready.fits.held d.makes

pub returns-then-not-may_step-clause-kinds : goal.returns-then-not-may_step-clause-kinds
returns-then-not-may_step-clause-kinds g c = turn_rests c.args.self.now.cpu c.args.self.now.domains Halted c.args.seats.now c.args.seats.now refl

pub returns-in-Err-clause-kinds : goal.returns-in-Err-clause-kinds
returns-in-Err-clause-kinds g c = turn_rests c.args.self.now.cpu c.args.self.now.domains Spent c.args.seats.now c.complete.new.seats (ap (λ (s : Seats). s.cpu) c.in-Err.ensures.spent.1)

pub returns-in-Ok-clause-kinds : goal.returns-in-Ok-clause-kinds
returns-in-Ok-clause-kinds g c =
    let cpu = c.args.self.now.cpu in
    let d = c.in-Ok.ensures.completes in
    turn_completes cpu c.args.self.now.domains c.land.result c.args.seats.now c.complete.new.seats c.land.new.seats
    (makes_as cpu (setting c.args.hands.now.kit.now.throttle.layout) (complete cpu d.page) d.found c.args.seats.now c.complete.new.seats refl d.makes) c.land.ensures.kinds
