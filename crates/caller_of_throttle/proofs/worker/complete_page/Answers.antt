use Rattle.wbt_table.specs.Layout.{setting}
use Rattle.wbt_table.proofs.Trying.{may_complete}
use Rattle.caller_of_throttle.specs.Work.{Worked}
use Rattle.caller_of_throttle.proofs.Working.{worked_on, worked_changes, worked_comes}
use Rattle.caller_of_throttle.proofs.worker.complete_page.Goals as goal

pub complete-requires-clause-may : goal.complete-requires-clause-may
complete-requires-clause-may g c = may_complete (setting c.args.throttle.now.layout) c.args.cpu c.args.page c.args.seat.now c.owes.result c.requires.page c.requires.mine c.if-owes.false c.owes.ensures

pub settle-requires-clause-held : goal.settle-requires-clause-held
settle-requires-clause-held g c = (worked_changes c.args.throttle.now c.args.cpu _ c.args.seat.now c.complete.new.seat c.requires.seat c.in-Ok.ensures.completed.1.changes).steps.held

pub returns-in-Ok : goal.returns-in-Ok
returns-in-Ok g c = let mid : Worked c.args.throttle.now c.args.cpu c.args.seat.now c.complete.new.seat =
    worked_changes c.args.throttle.now c.args.cpu _ c.args.seat.now c.complete.new.seat c.requires.seat c.in-Ok.ensures.completed.1.changes in
    worked_on c.args.throttle.now c.args.cpu c.args.seat.now c.complete.new.seat c.settle.new.seat mid
    (worked_comes c.args.throttle.now c.args.cpu _ c.complete.new.seat c.settle.new.seat mid.steps c.settle.ensures)
