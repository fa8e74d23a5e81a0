-- What was settled was paid, and told.
use Rattle.wbt_run_steps.proofs.Asking.{stopped_by}
use Rattle.wbt_writer.proofs.work.WriterWork.finish.Goals as goal
use Rattle.wbt_writer.proofs.Finishing.{cut_off, finished}
use Rattle.wbt_writer.proofs.Turning.{finish_cut, finish_marked, finish_paid}
use Rattle.wbt_writer.proofs.Paid.{at_paid, fits_paid, paid_all, pays, stopped}
use Rattle.std.proofs.Common.{Bool, refl, subst}
use Rattle.wbt_run_steps.specs.Steps.{Settled}
use Rattle.wbt_writer.proofs.Common.{mark, setting, asked_more, asked_once, once_made}
use Rattle.wbt_run_steps.proofs.Logging.{makes_as}

pub settle-requires : goal.settle-requires
settle-requires g c = let fits = c.requires.at_kit.fits in record { seats = fits.seats_are; held = fits.held; owed = c.requires.owed; room = c.requires.room }

pub may_step-requires : goal.may_step-requires
may_step-requires g c = record { held = (fits_paid c.args.place.now.cpu c.args.hands.now.kit.now _ _ _ _ _ _ c.settle.ensures.settled c.settle.ensures.seats).held }

pub mark-requires-clause-at_kit : goal.mark-requires-clause-at_kit
mark-requires-clause-at_kit g c =
    at_paid c.args.place.now.cpu c.args.hands.now.kit.now _ _ _ _ _ _ c.settle.ensures.settled c.args.place.now.trace.now c.args.self.now c.requires.at_kit c.settle.ensures.seats

pub returns-then-not-settle-clause-at_kit : goal.returns-then-not-settle-clause-at_kit
returns-then-not-settle-clause-at_kit g c =
    at_paid c.args.place.now.cpu c.args.hands.now.kit.now _ _ _ _ _ _ c.settle.ensures.settled c.args.place.now.trace.now c.args.self.now c.requires.at_kit c.settle.ensures.seats

pub returns-then-not-settle-clause-finishes : goal.returns-then-not-settle-clause-finishes
returns-then-not-settle-clause-finishes g c =
    cut_off c.args.place.now.trace.now c.args.hands.now.kit.now c.args.place.now.cpu c.args.self.now c.args.seats.now c.settle.new.seats c.args.pen.now.log c.settle.new.pen.log c.requires.at_kit
    (pays c.args.place.now.cpu c.args.hands.now.kit.now _ _ _ _ _ _ c.settle.ensures.settled)
    (g.G.Gate.said c.args.hands.now.gate.now) (stopped c.args.place.now.cpu c.args.hands.now.kit.now _ _ _ _ _ _ c.settle.ensures.settled c.if-not-settle.true)

pub returns-then-not-may_step-clause-at_kit : goal.returns-then-not-may_step-clause-at_kit
returns-then-not-may_step-clause-at_kit g c =
    at_paid c.args.place.now.cpu c.args.hands.now.kit.now _ _ _ _ _ _ c.settle.ensures.settled c.args.place.now.trace.now c.args.self.now c.requires.at_kit c.settle.ensures.seats

pub returns-then-not-may_step-clause-finishes : goal.returns-then-not-may_step-clause-finishes
returns-then-not-may_step-clause-finishes g c =
    cut_off c.args.place.now.trace.now c.args.hands.now.kit.now c.args.place.now.cpu c.args.self.now c.args.seats.now c.settle.new.seats c.args.pen.now.log c.settle.new.pen.log c.requires.at_kit
    (pays c.args.place.now.cpu c.args.hands.now.kit.now _ _ _ _ _ _ c.settle.ensures.settled)
    (g.G.Gate.said c.args.hands.now.gate.now) (stopped_by c.args.place.now.cpu (g.G.Gate.said c.args.hands.now.gate.now) c.may_step.result c.settle.new.seats c.may_step.ensures c.if-not-may_step.true)

pub returns-clause-finishes : goal.returns-clause-finishes
returns-clause-finishes g c =
    finished c.args.place.now.trace.now c.args.hands.now.kit.now c.args.place.now.cpu c.args.self.now c.args.seats.now c.settle.new.seats c.args.pen.now.log c.settle.new.pen.log c.requires.at_kit
    (pays c.args.place.now.cpu c.args.hands.now.kit.now _ _ _ _ _ _ c.settle.ensures.settled)
    c.args.inode c.mark.new.self c.mark.new.seats (paid_all c.args.place.now.cpu c.args.hands.now.kit.now _ _ _ _ _ _ c.settle.ensures.settled c.if-not-settle.false) c.mark.ensures.marked

pub returns-clause-asked : goal.returns-clause-asked
returns-clause-asked g c =
    let marks = c.mark.ensures.marked.marks in
    asked_more c.args.place.now.cpu (g.G.Gate.said c.args.hands.now.gate.now) c.args.seats.now c.settle.new.seats c.mark.new.seats c.settle.ensures.asked
    (asked_once c.args.place.now.cpu (g.G.Gate.said c.args.hands.now.gate.now) c.may_step.result c.settle.new.seats c.mark.new.seats c.may_step.ensures c.if-not-may_step.false
    (once_made (setting c.args.hands.now.kit.now.throttle.layout) (mark c.args.place.now.cpu c.args.inode) marks.found c.args.place.now.cpu c.settle.new.seats c.mark.new.seats refl
    (fits_paid c.args.place.now.cpu c.args.hands.now.kit.now _ _ _ _ _ _ c.settle.ensures.settled c.settle.ensures.seats).held marks.makes))

pub returns-then-not-settle-clause-took : goal.returns-then-not-settle-clause-took
returns-then-not-settle-clause-took g c = record { all = c.settle.result; settles = c.settle.ensures.settled; work = refl }

pub returns-then-not-may_step-clause-took : goal.returns-then-not-may_step-clause-took
returns-then-not-may_step-clause-took g c = record { all = c.settle.result; settles = c.settle.ensures.settled; work = refl }

pub returns-clause-took : goal.returns-clause-took
returns-clause-took g c = record {
  settled = c.settle.new.seats;
  settles = subst (λ (all : Bool). Settled c.args.place.now.cpu c.args.hands.now.kit.now (g.G.Gate.said c.args.hands.now.gate.now) all c.args.seats.now c.settle.new.seats c.args.pen.now.log c.settle.new.pen.log) c.if-not-settle.false c.settle.ensures.settled;
  marks = c.mark.ensures.marks;
  tasks = c.mark.ensures.marked.tasks;
  fractions = c.mark.ensures.marked.fractions;
}

pub returns-then-not-settle-clause-kinds : goal.returns-then-not-settle-clause-kinds
returns-then-not-settle-clause-kinds g c = finish_cut c.args.place.now.cpu c.args.seats.now c.settle.new.seats c.settle.result c.if-not-settle.true c.settle.ensures.kinds

pub returns-then-not-may_step-clause-kinds : goal.returns-then-not-may_step-clause-kinds
returns-then-not-may_step-clause-kinds g c = finish_paid c.args.place.now.cpu c.args.seats.now c.settle.new.seats c.settle.result c.if-not-settle.false c.settle.ensures.kinds

pub returns-clause-kinds : goal.returns-clause-kinds
returns-clause-kinds g c =
    let marks = c.mark.ensures.marks in
    finish_marked c.args.place.now.cpu c.args.seats.now c.settle.new.seats c.settle.result c.mark.new.seats c.if-not-settle.false c.settle.ensures.kinds
    (makes_as c.args.place.now.cpu (setting c.args.hands.now.kit.now.throttle.layout) (mark c.args.place.now.cpu c.args.inode) marks.found c.settle.new.seats c.mark.new.seats refl marks.makes)
