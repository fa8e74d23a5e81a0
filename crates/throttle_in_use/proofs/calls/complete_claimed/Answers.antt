use Rattle.wbt_table.specs.Layout.{setting}
use Rattle.wbt_table.proofs.Trying.{may_complete, after_changes}
use Rattle.throttle_in_use.proofs.calls.complete_claimed.Goals as goal

pub complete-requires-clause-may : goal.complete-requires-clause-may
complete-requires-clause-may c = may_complete (setting c.args.throttle.now.layout) c.args.cpu c.args.page c.args.seat.now c.owes.result c.requires.page c.requires.mine c.if-owes.false c.owes.ensures

pub settle-requires : goal.settle-requires
settle-requires c = after_changes c.args.throttle.now c.args.cpu _ c.args.seat.now c.complete.new.seat c.requires.seat c.in-Ok.ensures.completed.1.changes
