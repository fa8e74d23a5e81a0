use Rattle.std.proofs.Common.{refl}
use Rattle.wbt_table.specs.Layout.{setting}
use Rattle.wbt_table.specs.Callers.{StepsFor}
use Rattle.wbt_table.proofs.Trying.{may_dirty, after_its_changes, after_comes}
use Rattle.throttle_in_use.proofs.calls.write_page.Goals as goal

pub dirty-requires-clause-may : goal.dirty-requires-clause-may
dirty-requires-clause-may g c = may_dirty c.args.throttle.now.layout c.args.cpu c.args.writer c.args.page c.left.result c.args.seat.now c.owes.result c.requires.at.layout
    (c.if-not-may_write.ensures refl) c.if-left-eq0.false c.left.ensures c.if-owes.false c.owes.ensures

pub settle-requires-clause-held : goal.settle-requires-clause-held
settle-requires-clause-held g c = (after_its_changes c.args.throttle.now ((setting c.args.throttle.now.layout).seat c.args.writer) c.args.cpu _ c.args.seat.now c.dirty.new.seat
    (c.if-not-may_write.ensures refl).seat c.requires c.in-Ok.ensures.dirtied.makes.changes).held

pub returns-in-Ok : goal.returns-in-Ok
returns-in-Ok g c = let mid : StepsFor c.args.throttle.now c.args.cpu c.dirty.new.seat =
    after_its_changes c.args.throttle.now ((setting c.args.throttle.now.layout).seat c.args.writer) c.args.cpu _ c.args.seat.now c.dirty.new.seat
    (c.if-not-may_write.ensures refl).seat c.requires c.in-Ok.ensures.dirtied.makes.changes in
    after_comes c.args.throttle.now c.args.cpu _ c.dirty.new.seat c.settle.new.seat mid c.settle.ensures
