use Rattle.std.proofs.Common.{ℕ, ◌<◌, false, List, length, None, ap, arith, Bool, refl, sym, ◌∙◌, subst}
use Rattle.wbt_flusher.proofs.Common.{mark, setting, MOST_FAULTS, Settled, asked_more, asked_once, once_made, sight, makes_as}
use Rattle.wbt_run_steps.proofs.Asking.{stopped_by}
use Rattle.wbt_flusher.specs.Cut.{among_its_debts, before_its_mark}
use Rattle.wbt_flusher.specs.Took.{is_last_back, still_returns as returns_on}
use Rattle.wbt_flusher.proofs.Ending.{idle_steady, return_stands, steps_from}
use Rattle.wbt_flusher.proofs.Flown.{none_there}
use Rattle.wbt_flusher.proofs.Giving.{still_returns}
use Rattle.wbt_flusher.proofs.Going.{went_more, owes_still}
use Rattle.wbt_flusher.proofs.Paying.{settles}
use Rattle.wbt_flusher.specs.Kinds.{ComesAfter}
use Rattle.wbt_run_steps.proofs.Logging.{cut_whole}
use Rattle.wbt_flusher.proofs.Events.{may_settle, may_settle_part}
use Rattle.wbt_flusher.proofs.Turning.{comes_back, comes_back_cut, comes_back_last, one_mark}
use Rattle.wbt_flusher.proofs.plan.FlusherPlan.come_back.Goals as goal

pub settle-requires : goal.settle-requires
settle-requires g c =
    let back = c.requires.back in
    record { seats = back.fits.seats_are; held = back.fits.held; owed = back.owed; room = let room = c.requires.room in omega arith }

pub may_step-requires : goal.may_step-requires
may_step-requires g c = record {
  held = (settles c.args.self.now c.args.hands.now.kit.now (g.G.Gate.said c.args.hands.now.gate.now) c.settle.result c.args.seats.now c.settle.new.seats c.args.pen.now.log c.settle.new.pen.log
      c.requires.suits c.requires.back.fits c.settle.ensures.settled).fits.held;
}

pub end_return-requires-clause-fits : goal.end_return-requires-clause-fits
end_return-requires-clause-fits g c =
    (settles c.args.self.now c.args.hands.now.kit.now (g.G.Gate.said c.args.hands.now.gate.now) c.settle.result c.args.seats.now c.settle.new.seats c.args.pen.now.log c.settle.new.pen.log
    c.requires.suits c.requires.back.fits c.settle.ensures.settled).fits

pub end_return-requires-clause-returned : goal.end_return-requires-clause-returned
end_return-requires-clause-returned g c =
    let same = ap (λ (l : List ℕ). length l) c.as_slice.ensures.value in
    let most = c.requires.back.returned in
    let least = c.if-giving-as_slice.false in omega arith

pub returns-clause-asked : goal.returns-clause-asked
returns-clause-asked g c =
    let s = settles c.args.self.now c.args.hands.now.kit.now (g.G.Gate.said c.args.hands.now.gate.now) c.settle.result c.args.seats.now c.settle.new.seats c.args.pen.now.log c.settle.new.pen.log
    c.requires.suits c.requires.back.fits c.settle.ensures.settled in
    let m = c.end_return.ensures.ends c.settle.new.pen.log None in
    asked_more c.args.self.now.cpu (g.G.Gate.said c.args.hands.now.gate.now) c.args.seats.now c.settle.new.seats c.end_return.new.seats c.settle.ensures.asked
    (asked_once c.args.self.now.cpu (g.G.Gate.said c.args.hands.now.gate.now) c.may_step.result c.settle.new.seats c.end_return.new.seats c.may_step.ensures c.if-not-may_step.false
    (once_made (setting c.args.hands.now.kit.now.throttle.layout) (mark c.args.self.now.cpu c.args.giving.inode) m.marks.found c.args.self.now.cpu c.settle.new.seats c.end_return.new.seats refl s.fits.held m.marks.makes))

pub returns-then-not-settle-clause-ends : goal.returns-then-not-settle-clause-ends
returns-then-not-settle-clause-ends g c drain moments written =
    let s = settles c.args.self.now c.args.hands.now.kit.now (g.G.Gate.said c.args.hands.now.gate.now) c.settle.result c.args.seats.now c.settle.new.seats c.args.pen.now.log c.settle.new.pen.log
    c.requires.suits c.requires.back.fits c.settle.ensures.settled in
    record {
      went = s.goes moments c.args.work.now written;
      stands = return_stands c.args.work.now.phase c.args.giving c.requires.back.phase;
      stopped = s.stopped c.if-not-settle.true;
    }

pub returns-then-giving-as_slice-clause-ends : goal.returns-then-giving-as_slice-clause-ends
returns-then-giving-as_slice-clause-ends g c drain moments written =
    let s = settles c.args.self.now c.args.hands.now.kit.now (g.G.Gate.said c.args.hands.now.gate.now) c.settle.result c.args.seats.now c.settle.new.seats c.args.pen.now.log c.settle.new.pen.log
    c.requires.suits c.requires.back.fits c.settle.ensures.settled in
    let back = c.requires.back in
    let work = c.args.work.now in
    let same = ap (λ (l : List ℕ). length l) c.as_slice.ensures.value in
    let less = c.if-giving-as_slice.true in
    steps_from c.args.self.now c.args.hands.now.kit.now moments (sight work c.args.seats.now c.args.pen.now.log written) (sight work c.settle.new.seats c.settle.new.pen.log written)
    (s.goes moments work written) back.holds back.rooms (still_returns c.args.self.now c.args.hands.now.kit.now c.args.giving work c.args.seats.now back (omega arith)) (s.paid c.if-not-settle.false)

pub returns-then-not-may_step-clause-ends : goal.returns-then-not-may_step-clause-ends
returns-then-not-may_step-clause-ends g c drain moments written =
    let s = settles c.args.self.now c.args.hands.now.kit.now (g.G.Gate.said c.args.hands.now.gate.now) c.settle.result c.args.seats.now c.settle.new.seats c.args.pen.now.log c.settle.new.pen.log
    c.requires.suits c.requires.back.fits c.settle.ensures.settled in
    record {
      went = s.goes moments c.args.work.now written;
      stands = return_stands c.args.work.now.phase c.args.giving c.requires.back.phase;
      stopped = stopped_by c.args.self.now.cpu (g.G.Gate.said c.args.hands.now.gate.now) c.may_step.result c.settle.new.seats c.may_step.ensures c.if-not-may_step.true;
    }

pub returns-clause-ends : goal.returns-clause-ends
returns-clause-ends g c drain moments written =
    let s = settles c.args.self.now c.args.hands.now.kit.now (g.G.Gate.said c.args.hands.now.gate.now) c.settle.result c.args.seats.now c.settle.new.seats c.args.pen.now.log c.settle.new.pen.log
    c.requires.suits c.requires.back.fits c.settle.ensures.settled in
    let back = c.requires.back in
    let work = c.args.work.now in
    let plan = c.args.self.now in
    let kit = c.args.hands.now.kit.now in
    let e = c.end_return.ensures in
    let is = c.end_return.new.work in
    let ends = e.ends c.settle.new.pen.log written in
    let mid = c.settle.new.seats in
    let new = c.end_return.new.seats in
    steps_from plan kit moments (sight work c.args.seats.now c.args.pen.now.log written) (sight is new c.settle.new.pen.log written)
    (went_more plan kit moments (sight work c.args.seats.now c.args.pen.now.log written) (sight work mid c.settle.new.pen.log written) (sight is new c.settle.new.pen.log written)
    (s.goes moments work written) (e.goes moments c.settle.new.pen.log written)) back.holds back.rooms
    (idle_steady plan is _ false e.lists ends.phase (none_there is.batch.items ends.batch)
    (subst (λ (n : ℕ). n < MOST_FAULTS) (sym (ends.rest.faults ∙ ends.only.faults)) back.few_faults))
    (owes_still plan mid new e.debts (s.paid c.if-not-settle.false))

pub returns-then-giving-as_slice-clause-comes : goal.returns-then-giving-as_slice-clause-comes
returns-then-giving-as_slice-clause-comes g c is written =
    let same = ap (λ (l : List ℕ). length l) c.as_slice.ensures.value in
    let less = c.if-giving-as_slice.true in
    returns_on (omega arith)
    (subst (λ (b : Bool). Settled c.args.self.now.cpu c.args.hands.now.kit.now (g.G.Gate.said c.args.hands.now.gate.now) b c.args.seats.now c.settle.new.seats c.args.pen.now.log c.settle.new.pen.log) c.if-not-settle.false c.settle.ensures.settled) refl

pub returns-clause-comes : goal.returns-clause-comes
returns-clause-comes g c is written =
    let same = ap (λ (l : List ℕ). length l) c.as_slice.ensures.value in
    let most = c.requires.back.returned in
    let least = c.if-giving-as_slice.false in
    is_last_back (sight c.args.work.now c.settle.new.seats c.settle.new.pen.log written) (omega arith)
    (subst (λ (b : Bool). Settled c.args.self.now.cpu c.args.hands.now.kit.now (g.G.Gate.said c.args.hands.now.gate.now) b c.args.seats.now c.settle.new.seats c.args.pen.now.log c.settle.new.pen.log) c.if-not-settle.false c.settle.ensures.settled)
    refl (c.end_return.ensures.ends c.settle.new.pen.log written)

pub returns-then-not-settle-clause-halts : goal.returns-then-not-settle-clause-halts
returns-then-not-settle-clause-halts g c is written = among_its_debts
    (subst (λ (b : Bool). Settled c.args.self.now.cpu c.args.hands.now.kit.now (g.G.Gate.said c.args.hands.now.gate.now) b c.args.seats.now c.settle.new.seats c.args.pen.now.log c.settle.new.pen.log)
    c.if-not-settle.true c.settle.ensures.settled) refl

pub returns-then-not-may_step-clause-halts : goal.returns-then-not-may_step-clause-halts
returns-then-not-may_step-clause-halts g c is written =
    let same = ap (λ (l : List ℕ). length l) c.as_slice.ensures.value in
    let most = c.requires.back.returned in
    let least = c.if-giving-as_slice.false in
    before_its_mark (sight c.args.work.now c.settle.new.seats c.settle.new.pen.log written) (omega arith)
    (subst (λ (b : Bool). Settled c.args.self.now.cpu c.args.hands.now.kit.now (g.G.Gate.said c.args.hands.now.gate.now) b c.args.seats.now c.settle.new.seats c.args.pen.now.log c.settle.new.pen.log) c.if-not-settle.false c.settle.ensures.settled)
    refl (record { seats = refl; work = refl; told = refl })

pub returns-clause-faults : goal.returns-clause-faults
returns-clause-faults g c =
    let ends = c.end_return.ensures.ends c.settle.new.pen.log None in ends.rest.faults ∙ ends.only.faults

-- ---- kinds of steps

pub returns-then-not-settle-clause-kinds : goal.returns-then-not-settle-clause-kinds
returns-then-not-settle-clause-kinds g c =
    comes_back_cut c.args.self.now.cpu c.args.seats.now c.settle.new.seats
    (may_settle_part c.args.self.now c.args.hands.now.kit.now c.settle.result c.args.seats.now c.settle.new.seats c.requires.event c.if-not-settle.true c.settle.ensures.kinds)

pub returns-then-giving-as_slice-clause-kinds : goal.returns-then-giving-as_slice-clause-kinds
returns-then-giving-as_slice-clause-kinds g c =
    comes_back c.args.self.now.cpu c.args.seats.now c.settle.new.seats
    (may_settle c.args.self.now c.args.hands.now.kit.now c.settle.result c.args.seats.now c.settle.new.seats c.requires.event c.if-not-settle.false c.settle.ensures.kinds)

pub returns-then-not-may_step-clause-kinds : goal.returns-then-not-may_step-clause-kinds
returns-then-not-may_step-clause-kinds g c =
    cut_whole c.args.self.now.cpu ComesAfter c.args.seats.now c.settle.new.seats
    (comes_back c.args.self.now.cpu c.args.seats.now c.settle.new.seats
    (may_settle c.args.self.now c.args.hands.now.kit.now c.settle.result c.args.seats.now c.settle.new.seats c.requires.event c.if-not-settle.false c.settle.ensures.kinds))

pub returns-clause-kinds : goal.returns-clause-kinds
returns-clause-kinds g c =
    let cpu = c.args.self.now.cpu in
    let m = c.end_return.ensures.ends c.settle.new.pen.log None in
    comes_back_last cpu c.args.seats.now c.settle.new.seats c.end_return.new.seats
    (may_settle c.args.self.now c.args.hands.now.kit.now c.settle.result c.args.seats.now c.settle.new.seats c.requires.event c.if-not-settle.false c.settle.ensures.kinds)
    (one_mark cpu c.settle.new.seats c.end_return.new.seats
    (makes_as cpu (setting c.args.hands.now.kit.now.throttle.layout) (mark cpu c.args.giving.inode) m.marks.found c.settle.new.seats c.end_return.new.seats refl m.marks.makes))
