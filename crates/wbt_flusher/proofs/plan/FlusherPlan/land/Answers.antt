use Rattle.wbt_flusher.proofs.Common.{asked_more, asked_none, sight, no_moments, Settled, IsSettled}
use Rattle.std.proofs.Common.{ℕ, List, length, ap, arith, Bool, refl, subst}
use Rattle.std.specs.Prelude.{None}
use Rattle.wbt_flusher.proofs.Ending.{flight_stands, steps_from, idle_steady}
use Rattle.wbt_flusher.proofs.Flown.{still_flies, none_there}
use Rattle.wbt_flusher.proofs.Going.{went_more, rooms_went, owes_still}
use Rattle.wbt_flusher.proofs.Keeping.{debts_same}
use Rattle.wbt_flusher.proofs.Paying.{settles}
use Rattle.wbt_flusher.specs.Took.{is_last}
use Rattle.wbt_flusher.proofs.Events.{event_settled, event_settled_part}
use Rattle.wbt_flusher.proofs.Turning.{still_after}
use Rattle.wbt_flusher.proofs.plan.FlusherPlan.land.Goals as goal

pub settle-requires : goal.settle-requires
settle-requires g c =
    let down = c.requires.down in
    record { seats = down.fits.seats_are; held = down.fits.held; owed = down.owed; room = let room = c.requires.room in omega arith }

pub returns-clause-asked : goal.returns-clause-asked
returns-clause-asked g c =
    asked_more c.args.self.now.cpu (g.G.Gate.said c.args.hands.now.gate.now) c.args.seats.now c.settle.new.seats c.end_flight.new.seats
    (c.settle.ensures.asked)
    (asked_none c.args.self.now.cpu (g.G.Gate.said c.args.hands.now.gate.now) c.settle.new.seats c.end_flight.new.seats c.end_flight.ensures.only_share.cpu)

pub end_flight-requires-clause-fits : goal.end_flight-requires-clause-fits
end_flight-requires-clause-fits g c =
    let s = settles c.args.self.now c.args.hands.now.kit.now (g.G.Gate.said c.args.hands.now.gate.now) c.settle.result c.args.seats.now c.settle.new.seats c.args.pen.now.log c.settle.new.pen.log
    c.requires.suits c.requires.down.fits c.settle.ensures.settled in
    s.fits

pub returns-then-not-settle-clause-ends : goal.returns-then-not-settle-clause-ends
returns-then-not-settle-clause-ends g c drain moments written =
    let s = settles c.args.self.now c.args.hands.now.kit.now (g.G.Gate.said c.args.hands.now.gate.now) c.settle.result c.args.seats.now c.settle.new.seats c.args.pen.now.log c.settle.new.pen.log
    c.requires.suits c.requires.down.fits c.settle.ensures.settled in
    record {
      went = s.goes moments c.args.work.now written;
      stands = flight_stands c.args.work.now.phase c.args.flight c.requires.down.phase;
      stopped = s.stopped c.if-not-settle.true;
    }

pub returns-then-flight-as_slice-clause-ends : goal.returns-then-flight-as_slice-clause-ends
returns-then-flight-as_slice-clause-ends g c drain moments written =
    let s = settles c.args.self.now c.args.hands.now.kit.now (g.G.Gate.said c.args.hands.now.gate.now) c.settle.result c.args.seats.now c.settle.new.seats c.args.pen.now.log c.settle.new.pen.log
    c.requires.suits c.requires.down.fits c.settle.ensures.settled in
    let down = c.requires.down in
    let work = c.args.work.now in
    let same = ap (λ (l : List ℕ). length l) c.as_slice.ensures.value in
    let less = c.if-flight-as_slice.true in
    steps_from c.args.self.now c.args.hands.now.kit.now moments (sight work c.args.seats.now c.args.pen.now.log written) (sight work c.settle.new.seats c.settle.new.pen.log written)
    (s.goes moments work written) down.holds down.rooms (still_flies c.args.self.now c.args.hands.now.kit.now c.args.flight work c.args.seats.now down (omega arith)) (s.paid c.if-not-settle.false)

pub end_flight-requires-clause-rooms : goal.end_flight-requires-clause-rooms
end_flight-requires-clause-rooms g c =
    let s = settles c.args.self.now c.args.hands.now.kit.now (g.G.Gate.said c.args.hands.now.gate.now) c.settle.result c.args.seats.now c.settle.new.seats c.args.pen.now.log c.settle.new.pen.log
    c.requires.suits c.requires.down.fits c.settle.ensures.settled in
    rooms_went c.args.self.now c.args.hands.now.kit.now no_moments (sight c.args.work.now c.args.seats.now c.args.pen.now.log None) (sight c.args.work.now c.settle.new.seats c.settle.new.pen.log None)
    (s.goes no_moments c.args.work.now None) c.requires.down.rooms

pub returns-clause-ends : goal.returns-clause-ends
returns-clause-ends g c drain moments written =
    let s = settles c.args.self.now c.args.hands.now.kit.now (g.G.Gate.said c.args.hands.now.gate.now) c.settle.result c.args.seats.now c.settle.new.seats c.args.pen.now.log c.settle.new.pen.log
    c.requires.suits c.requires.down.fits c.settle.ensures.settled in
    let down = c.requires.down in
    let work = c.args.work.now in
    let e = c.end_flight.ensures in
    let is = c.end_flight.new.work in
    let plan = c.args.self.now in
    let kit = c.args.hands.now.kit.now in
    let mid = c.settle.new.seats in
    let new = c.end_flight.new.seats in
    steps_from plan kit moments (sight work c.args.seats.now c.args.pen.now.log written) (sight is new c.end_flight.new.pen.log written)
    (went_more plan kit moments (sight work c.args.seats.now c.args.pen.now.log written) (sight work mid c.settle.new.pen.log written) (sight is new c.end_flight.new.pen.log written)
    (s.goes moments work written) (e.goes moments written)) down.holds down.rooms
    (idle_steady plan is 0 _ e.lists e.idle (none_there is.batch.items e.batch) (let few = down.few_faults in let same = e.faults in omega arith))
    (owes_still plan mid new (debts_same plan mid new e.only_share.cpu) (s.paid c.if-not-settle.false))

pub returns-clause-lands : goal.returns-clause-lands
returns-clause-lands g c is written =
    let work = c.args.work.now in
    let same = ap (λ (l : List ℕ). length l) c.as_slice.ensures.value in
    let most = c.requires.down.landed in
    let least = c.if-flight-as_slice.false in
    is_last (sight work c.settle.new.seats c.settle.new.pen.log written) (omega arith)
    (subst (λ (b : Bool). Settled c.args.self.now.cpu c.args.hands.now.kit.now (g.G.Gate.said c.args.hands.now.gate.now) b c.args.seats.now c.settle.new.seats c.args.pen.now.log c.settle.new.pen.log) c.if-not-settle.false c.settle.ensures.settled)
    refl (c.end_flight.ensures.counts written)

pub returns-then-not-settle-clause-halts : goal.returns-then-not-settle-clause-halts
returns-then-not-settle-clause-halts g c is = (
  subst (λ (b : Bool). Settled c.args.self.now.cpu c.args.hands.now.kit.now (g.G.Gate.said c.args.hands.now.gate.now) b c.args.seats.now c.settle.new.seats c.args.pen.now.log c.settle.new.pen.log)
      c.if-not-settle.true c.settle.ensures.settled,
  refl,
)

-- ---- kinds of steps

pub returns-then-not-settle-clause-kinds : goal.returns-then-not-settle-clause-kinds
returns-then-not-settle-clause-kinds g c =
    event_settled_part c.args.self.now c.args.hands.now.kit.now c.settle.result c.args.seats.now c.settle.new.seats c.requires.event c.if-not-settle.true c.settle.ensures.kinds

pub returns-then-flight-as_slice-clause-kinds : goal.returns-then-flight-as_slice-clause-kinds
returns-then-flight-as_slice-clause-kinds g c =
    event_settled c.args.self.now c.args.hands.now.kit.now c.settle.result c.args.seats.now c.settle.new.seats c.requires.event c.if-not-settle.false c.settle.ensures.kinds

pub returns-clause-kinds : goal.returns-clause-kinds
returns-clause-kinds g c =
    still_after c.args.self.now.cpu IsSettled c.args.seats.now c.settle.new.seats c.end_flight.new.seats
    (event_settled c.args.self.now c.args.hands.now.kit.now c.settle.result c.args.seats.now c.settle.new.seats c.requires.event c.if-not-settle.false c.settle.ensures.kinds)
    c.end_flight.ensures.only_share.cpu
