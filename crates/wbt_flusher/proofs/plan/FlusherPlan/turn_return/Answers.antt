-- A page of a return, and what came after it.
use Rattle.std.proofs.Common.{ap, ◌∙◌, None, subst}
use Rattle.wbt_flusher.specs.Cut.{after_its_page, at_its_page}
use Rattle.wbt_flusher.specs.Gives.{Gives, StandsAfter}
use Rattle.wbt_flusher.proofs.Common.{sight, Seats, Spent, Stepped}
use Rattle.wbt_flusher.specs.declared.back.Given.{Given}
use Rattle.wbt_flusher.specs.Took.{gives_it, misses_it}
use Rattle.wbt_flusher.specs.declared.work.FlusherWork.{FlusherWork}
use Rattle.wbt_flusher.proofs.Ending.{ends_after, return_stands}
use Rattle.wbt_flusher.specs.Kinds.{StepsToGive}
use Rattle.wbt_flusher.proofs.Events.{owes_given}
use Rattle.wbt_flusher.proofs.Turning.{back_cut, turn_gives, turn_misses, turn_rests}
use Rattle.wbt_flusher.proofs.plan.FlusherPlan.turn_return.Goals as goal

pub returns-in-Ok-Stopped-clause-ends : goal.returns-in-Ok-Stopped-clause-ends
returns-in-Ok-Stopped-clause-ends g c drain moments written =
    let stops = subst (λ (x : Given). Gives c.args.self.now c.args.hands.now.kit.now (g.G.Gate.said c.args.hands.now.gate.now) c.args.giving x (sight c.args.work.now c.args.seats.now c.args.pen.now.log written) (sight c.give_next.new.work c.give_next.new.seats c.give_next.new.pen.log written)) c.in-Ok-Stopped.field-0-is (c.in-Ok-Stopped.ensures.gives written) in
    record {
      went = c.give_next.ensures.goes moments written;
      stands = return_stands c.give_next.new.work.phase c.args.giving (ap (λ (w : FlusherWork). w.phase) stops.work ∙ c.requires.phase);
      stopped = stops.stops.stopped;
    }

pub returns-in-Ok-Stopped-clause-halts : goal.returns-in-Ok-Stopped-clause-halts
returns-in-Ok-Stopped-clause-halts g c is written = at_its_page
    (subst (λ (x : Given). Gives c.args.self.now c.args.hands.now.kit.now (g.G.Gate.said c.args.hands.now.gate.now) c.args.giving x (sight c.args.work.now c.args.seats.now c.args.pen.now.log written) (sight c.give_next.new.work c.give_next.new.seats c.give_next.new.pen.log written)) c.in-Ok-Stopped.field-0-is (c.in-Ok-Stopped.ensures.gives written))

pub returns-in-Ok-Stopped-clause-faults : goal.returns-in-Ok-Stopped-clause-faults
returns-in-Ok-Stopped-clause-faults g c = ap (λ (w : FlusherWork). w.faults) (subst (λ (x : Given). Gives c.args.self.now c.args.hands.now.kit.now (g.G.Gate.said c.args.hands.now.gate.now) c.args.giving x (sight c.args.work.now c.args.seats.now c.args.pen.now.log None) (sight c.give_next.new.work c.give_next.new.seats c.give_next.new.pen.log None)) c.in-Ok-Stopped.field-0-is (c.in-Ok-Stopped.ensures.gives None)).work

pub returns-in-Ok-Missed-clause-ends : goal.returns-in-Ok-Missed-clause-ends
returns-in-Ok-Missed-clause-ends g c drain moments written = record { went = c.give_next.ensures.goes moments written; ready = subst (λ (x : Given). StandsAfter c.args.self.now c.args.hands.now.kit.now c.args.giving x c.give_next.new.work c.give_next.new.seats) c.in-Ok-Missed.field-0-is c.in-Ok-Missed.ensures.stands }

pub returns-in-Ok-Missed-clause-returns : goal.returns-in-Ok-Missed-clause-returns
returns-in-Ok-Missed-clause-returns g c is written = misses_it
    (subst (λ (x : Given). Gives c.args.self.now c.args.hands.now.kit.now (g.G.Gate.said c.args.hands.now.gate.now) c.args.giving x (sight c.args.work.now c.args.seats.now c.args.pen.now.log written) (sight c.give_next.new.work c.give_next.new.seats c.give_next.new.pen.log written)) c.in-Ok-Missed.field-0-is (c.in-Ok-Missed.ensures.gives written))

pub returns-in-Ok-Missed-clause-faults : goal.returns-in-Ok-Missed-clause-faults
returns-in-Ok-Missed-clause-faults g c = ap (λ (w : FlusherWork). w.faults) (subst (λ (x : Given). Gives c.args.self.now c.args.hands.now.kit.now (g.G.Gate.said c.args.hands.now.gate.now) c.args.giving x (sight c.args.work.now c.args.seats.now c.args.pen.now.log None) (sight c.give_next.new.work c.give_next.new.seats c.give_next.new.pen.log None)) c.in-Ok-Missed.field-0-is (c.in-Ok-Missed.ensures.gives None)).work

pub returns-in-Ok-Passed-clause-ends : goal.returns-in-Ok-Passed-clause-ends
returns-in-Ok-Passed-clause-ends g c drain moments written =
    ends_after c.args.self.now c.args.hands.now.kit.now moments (g.G.Gate.said c.args.hands.now.gate.now) (sight c.args.work.now c.args.seats.now c.args.pen.now.log written)
    (sight c.give_next.new.work c.give_next.new.seats c.give_next.new.pen.log written) (sight c.come_back.new.work c.come_back.new.seats c.come_back.new.pen.log written)
    (c.give_next.ensures.goes moments written) drain ⊥ c.come_back.result (c.come_back.ensures.ends drain moments written)

pub returns-in-Ok-Passed-clause-returns : goal.returns-in-Ok-Passed-clause-returns
returns-in-Ok-Passed-clause-returns g c is written =
    gives_it (sight c.give_next.new.work c.give_next.new.seats c.give_next.new.pen.log written) (subst (λ (x : Given). Gives c.args.self.now c.args.hands.now.kit.now (g.G.Gate.said c.args.hands.now.gate.now) c.args.giving x (sight c.args.work.now c.args.seats.now c.args.pen.now.log written) (sight c.give_next.new.work c.give_next.new.seats c.give_next.new.pen.log written)) c.in-Ok-Passed.field-0-is (c.in-Ok-Passed.ensures.gives written)) (c.come_back.ensures.comes is written)

pub returns-in-Ok-Passed-clause-halts : goal.returns-in-Ok-Passed-clause-halts
returns-in-Ok-Passed-clause-halts g c is written =
    after_its_page (sight c.give_next.new.work c.give_next.new.seats c.give_next.new.pen.log written) (subst (λ (x : Given). Gives c.args.self.now c.args.hands.now.kit.now (g.G.Gate.said c.args.hands.now.gate.now) c.args.giving x (sight c.args.work.now c.args.seats.now c.args.pen.now.log written) (sight c.give_next.new.work c.give_next.new.seats c.give_next.new.pen.log written)) c.in-Ok-Passed.field-0-is (c.in-Ok-Passed.ensures.gives written)) (c.come_back.ensures.halts is written)

pub returns-in-Ok-Passed-clause-faults : goal.returns-in-Ok-Passed-clause-faults
returns-in-Ok-Passed-clause-faults g c = c.come_back.ensures.faults ∙ ap (λ (w : FlusherWork). w.faults) (subst (λ (x : Given). Gives c.args.self.now c.args.hands.now.kit.now (g.G.Gate.said c.args.hands.now.gate.now) c.args.giving x (sight c.args.work.now c.args.seats.now c.args.pen.now.log None) (sight c.give_next.new.work c.give_next.new.seats c.give_next.new.pen.log None)) c.in-Ok-Passed.field-0-is (c.in-Ok-Passed.ensures.gives None)).work

pub come_back-requires-clause-back : goal.come_back-requires-clause-back
come_back-requires-clause-back g c =
    subst (λ (x : Given). StandsAfter c.args.self.now c.args.hands.now.kit.now c.args.giving x c.give_next.new.work c.give_next.new.seats) c.in-Ok-Passed.field-0-is c.in-Ok-Passed.ensures.stands

-- ---- kinds of steps

pub come_back-requires-clause-event : goal.come_back-requires-clause-event
come_back-requires-clause-event g c =
    let gives = subst (λ (x : Given). Gives c.args.self.now c.args.hands.now.kit.now (g.G.Gate.said c.args.hands.now.gate.now) c.args.giving x (sight c.args.work.now c.args.seats.now c.args.pen.now.log None) (sight c.give_next.new.work c.give_next.new.seats c.give_next.new.pen.log None)) c.in-Ok-Passed.field-0-is (c.in-Ok-Passed.ensures.gives None) in
    owes_given c.args.self.now c.args.hands.now.kit.now gives.page gives.absorbed c.args.seats.now c.give_next.new.seats c.requires.ready.owes_none gives.gives.returned

pub returns-in-Err-clause-kinds : goal.returns-in-Err-clause-kinds
returns-in-Err-clause-kinds g c = turn_rests c.args.self.now.cpu c.args.self.now.domains Spent c.args.seats.now c.give_next.new.seats (ap (λ (s : Seats). s.cpu) c.in-Err.ensures.spent.1)

pub returns-in-Ok-Stopped-clause-kinds : goal.returns-in-Ok-Stopped-clause-kinds
returns-in-Ok-Stopped-clause-kinds g c =
    back_cut c.args.self.now.cpu c.args.self.now.domains c.args.seats.now c.give_next.new.seats
    (subst (λ (x : Given). StepsToGive c.args.self.now.cpu x c.args.seats.now c.give_next.new.seats) c.in-Ok-Stopped.field-0-is c.in-Ok-Stopped.ensures.kinds)

pub returns-in-Ok-Missed-clause-kinds : goal.returns-in-Ok-Missed-clause-kinds
returns-in-Ok-Missed-clause-kinds g c =
    turn_misses c.args.self.now.cpu c.args.self.now.domains Stepped c.args.seats.now c.give_next.new.seats
    (subst (λ (x : Given). StepsToGive c.args.self.now.cpu x c.args.seats.now c.give_next.new.seats) c.in-Ok-Missed.field-0-is c.in-Ok-Missed.ensures.kinds)

pub returns-in-Ok-Passed-clause-kinds : goal.returns-in-Ok-Passed-clause-kinds
returns-in-Ok-Passed-clause-kinds g c =
    turn_gives c.args.self.now.cpu c.args.self.now.domains c.come_back.result c.args.seats.now c.give_next.new.seats c.come_back.new.seats
    (subst (λ (x : Given). StepsToGive c.args.self.now.cpu x c.args.seats.now c.give_next.new.seats) c.in-Ok-Passed.field-0-is c.in-Ok-Passed.ensures.kinds) c.come_back.ensures.kinds
