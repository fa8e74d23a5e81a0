use Rattle.wbt_table.specs.Layout.{setting}
use Rattle.wbt_table.proofs.Trying.{may_dirty}
use Rattle.caller_of_throttle.specs.Work.{Worked}
use Rattle.caller_of_throttle.proofs.Working.{worked_on, worked_as, worked_comes}
use Rattle.caller_of_throttle.proofs.worker.dirty_page.Goals as goal

pub dirty-requires-clause-may : goal.dirty-requires-clause-may
dirty-requires-clause-may g c = may_dirty c.args.throttle.now.layout c.args.cpu c.args.writer c.args.page c.left.result c.args.seat.now c.owes.result c.requires.seat.at.layout
    c.requires.may c.if-left-eq0.false c.left.ensures c.if-owes.false c.owes.ensures

pub settle-requires-clause-held : goal.settle-requires-clause-held
settle-requires-clause-held g c = (worked_as c.args.throttle.now c.args.cpu ((setting c.args.throttle.now.layout).seat c.args.writer) _ c.args.seat.now c.dirty.new.seat
    c.requires.may.seat c.requires.seat c.in-Ok.ensures.dirtied.makes.changes).steps.held

pub returns-in-Ok : goal.returns-in-Ok
returns-in-Ok g c = let mid : Worked c.args.throttle.now c.args.cpu c.args.seat.now c.dirty.new.seat =
    worked_as c.args.throttle.now c.args.cpu ((setting c.args.throttle.now.layout).seat c.args.writer) _ c.args.seat.now c.dirty.new.seat
    c.requires.may.seat c.requires.seat c.in-Ok.ensures.dirtied.makes.changes in
    worked_on c.args.throttle.now c.args.cpu c.args.seat.now c.dirty.new.seat c.settle.new.seat mid
    (worked_comes c.args.throttle.now c.args.cpu _ c.dirty.new.seat c.settle.new.seat mid.steps c.settle.ensures)
