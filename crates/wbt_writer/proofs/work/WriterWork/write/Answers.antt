use Rattle.wbt_run_steps.proofs.Asking.{stopped_by}
use Rattle.wbt_writer.proofs.work.WriterWork.write.Goals as goal
use Rattle.std.proofs.Common.{◌+◌, ap, subst}
use Rattle.wbt_writer.proofs.Common.{domains, Dirtied, first_page, Sight, sight, Dirties, StepsToDirty, asked_more, asked_none, asked_once, none_as, takes_none}
use Rattle.wbt_writer.specs.Exact.{DirtiesPage, before_its_page, was_dirty}
use Rattle.wbt_writer.proofs.Exacting.{write_took}
use Rattle.wbt_writer.proofs.Turning.{write_again, write_fresh, write_none}
use Rattle.wbt_writer.proofs.Writing.{stopped_first, writes_fresh, written_already}
use Rattle.std.proofs.Common.{refl}

pub returns-then-not-may_step-clause-writes : goal.returns-then-not-may_step-clause-writes
returns-then-not-may_step-clause-writes g c =
    stopped_first c.args.place.now.trace.now c.args.hands.now.kit.now.published.moment c.args.place.now.cpu (g.G.Gate.said c.args.hands.now.gate.now) c.args.self.now c.args.seats.now c.args.pen.now.log (stopped_by c.args.place.now.cpu (g.G.Gate.said c.args.hands.now.gate.now) c.may_step.result c.args.seats.now c.may_step.ensures c.if-not-may_step.true)

pub returns-in-Ok-Already-clause-writes : goal.returns-in-Ok-Already-clause-writes
returns-in-Ok-Already-clause-writes g c =
    written_already c.args.place.now.trace.now c.args.hands.now.kit.now c.args.place.now.cpu c.args.task c.args.inode c.args.page (g.G.Gate.said c.args.hands.now.gate.now)
    (sight c.args.self.now c.args.seats.now c.args.pen.now.log) (sight c.args.self.now c.args.seats.now c.args.pen.now.log) (sight c.dirty.new.self c.dirty.new.seats c.dirty.new.pen.log)
    (subst (λ (a : Dirtied). Dirties c.args.place.now.trace.now c.args.hands.now.kit.now c.args.place.now.cpu c.args.task c.args.inode c.args.page a (sight c.args.self.now c.args.seats.now c.args.pen.now.log)
    (sight c.dirty.new.self c.dirty.new.seats c.dirty.new.pen.log)) c.in-Ok-Already.field-0-is c.in-Ok-Already.ensures.dirties)

pub returns-in-Ok-Fresh-clause-writes : goal.returns-in-Ok-Fresh-clause-writes
returns-in-Ok-Fresh-clause-writes g c =
    writes_fresh c.args.place.now.trace.now c.args.hands.now.kit.now c.args.place.now.cpu c.args.task c.args.inode c.args.page (g.G.Gate.said c.args.hands.now.gate.now)
    (sight c.args.self.now c.args.seats.now c.args.pen.now.log) (sight c.dirty.new.self c.dirty.new.seats c.dirty.new.pen.log) (sight c.finish.new.self c.finish.new.seats c.finish.new.pen.log) c.finish.result
    (subst (λ (a : Dirtied). Dirties c.args.place.now.trace.now c.args.hands.now.kit.now c.args.place.now.cpu c.args.task c.args.inode c.args.page a (sight c.args.self.now c.args.seats.now c.args.pen.now.log)
    (sight c.dirty.new.self c.dirty.new.seats c.dirty.new.pen.log)) c.in-Ok-Fresh.field-0-is c.in-Ok-Fresh.ensures.dirties)
    c.finish.ensures.finishes

pub returns-then-not-may_step-clause-asked : goal.returns-then-not-may_step-clause-asked
returns-then-not-may_step-clause-asked g c = asked_none c.args.place.now.cpu (g.G.Gate.said c.args.hands.now.gate.now) c.args.seats.now c.args.seats.now refl

pub returns-in-Err-clause-asked : goal.returns-in-Err-clause-asked
returns-in-Err-clause-asked g c = asked_once c.args.place.now.cpu (g.G.Gate.said c.args.hands.now.gate.now) c.may_step.result c.args.seats.now c.dirty.new.seats c.may_step.ensures c.if-not-may_step.false c.dirty.ensures.once

pub returns-in-Ok-Already-clause-asked : goal.returns-in-Ok-Already-clause-asked
returns-in-Ok-Already-clause-asked g c = asked_once c.args.place.now.cpu (g.G.Gate.said c.args.hands.now.gate.now) c.may_step.result c.args.seats.now c.dirty.new.seats c.may_step.ensures c.if-not-may_step.false c.dirty.ensures.once

pub returns-in-Ok-Fresh-clause-asked : goal.returns-in-Ok-Fresh-clause-asked
returns-in-Ok-Fresh-clause-asked g c =
    asked_more c.args.place.now.cpu (g.G.Gate.said c.args.hands.now.gate.now) c.args.seats.now c.dirty.new.seats c.finish.new.seats
    (asked_once c.args.place.now.cpu (g.G.Gate.said c.args.hands.now.gate.now) c.may_step.result c.args.seats.now c.dirty.new.seats c.may_step.ensures c.if-not-may_step.false c.dirty.ensures.once)
    c.finish.ensures.asked

pub returns-then-not-may_step-clause-took : goal.returns-then-not-may_step-clause-took
returns-then-not-may_step-clause-took g c = before_its_page refl

pub returns-in-Err-clause-took : goal.returns-in-Err-clause-took
returns-in-Err-clause-took g c = c.in-Err.ensures.spent.0

pub returns-in-Ok-Already-clause-took : goal.returns-in-Ok-Already-clause-took
returns-in-Ok-Already-clause-took g c =
    was_dirty (subst (λ (a : Dirtied). DirtiesPage c.args.place.now.trace.now c.args.hands.now.kit.now c.args.task c.args.inode c.args.page a (sight c.args.self.now c.args.seats.now c.args.pen.now.log)
    (sight c.dirty.new.self c.dirty.new.seats c.dirty.new.pen.log)) c.in-Ok-Already.field-0-is c.in-Ok-Already.ensures.took)

pub returns-in-Ok-Fresh-clause-took : goal.returns-in-Ok-Fresh-clause-took
returns-in-Ok-Fresh-clause-took g c =
    write_took c.args.place.now.trace.now c.args.hands.now.kit.now c.args.place.now.cpu c.args.task c.args.inode c.args.page (g.G.Gate.said c.args.hands.now.gate.now)
    (sight c.args.self.now c.args.seats.now c.args.pen.now.log) (sight c.dirty.new.self c.dirty.new.seats c.dirty.new.pen.log) (sight c.finish.new.self c.finish.new.seats c.finish.new.pen.log) c.finish.result
    (subst (λ (a : Dirtied). DirtiesPage c.args.place.now.trace.now c.args.hands.now.kit.now c.args.task c.args.inode c.args.page a (sight c.args.self.now c.args.seats.now c.args.pen.now.log)
    (sight c.dirty.new.self c.dirty.new.seats c.dirty.new.pen.log)) c.in-Ok-Fresh.field-0-is c.in-Ok-Fresh.ensures.took)
    c.finish.ensures.took

pub returns-then-not-may_step-clause-kinds : goal.returns-then-not-may_step-clause-kinds
returns-then-not-may_step-clause-kinds g c = write_none (domains c.args.hands.now.kit.now.throttle.layout) c.args.place.now.cpu c.args.seats.now

pub returns-in-Err-clause-kinds : goal.returns-in-Err-clause-kinds
returns-in-Err-clause-kinds g c = takes_none (domains c.args.hands.now.kit.now.throttle.layout) c.args.place.now.cpu c.args.seats.now c.dirty.new.seats
    (none_as c.args.place.now.cpu c.args.seats.now c.dirty.new.seats (ap (λ (s : Sight). s.seats.cpu) c.in-Err.ensures.spent.0))

pub returns-in-Ok-Already-clause-kinds : goal.returns-in-Ok-Already-clause-kinds
returns-in-Ok-Already-clause-kinds g c = write_again (domains c.args.hands.now.kit.now.throttle.layout) c.args.hands.now.kit.now c.args.place.now.cpu (first_page c.args.place.now.trace.now c.args.inode + c.args.page) _
    c.args.seats.now c.dirty.new.seats c.in-Ok-Already.ensures.kinds

pub returns-in-Ok-Fresh-clause-kinds : goal.returns-in-Ok-Fresh-clause-kinds
returns-in-Ok-Fresh-clause-kinds g c =
    let page = first_page c.args.place.now.trace.now c.args.inode + c.args.page in
    write_fresh (domains c.args.hands.now.kit.now.throttle.layout) c.args.hands.now.kit.now c.args.place.now.cpu page c.args.seats.now c.dirty.new.seats c.finish.new.seats
    (subst (λ (a : Dirtied). StepsToDirty c.args.hands.now.kit.now c.args.place.now.cpu page a c.args.seats.now c.dirty.new.seats) c.in-Ok-Fresh.field-0-is c.in-Ok-Fresh.ensures.kinds)
    c.finish.result c.finish.ensures.kinds
