use Rattle.wbt_table.specs.Layout.{setting}
use Rattle.wbt_table.proofs.Trying.{after_changes}
use Rattle.wbt_table.proofs.InFlight.{marked_owes_none}
use Rattle.throttle_in_use.proofs.inodes.mark.Goals as goal

pub returns-clause-seat : goal.returns-clause-seat
returns-clause-seat c = after_changes c.args.throttle.now c.args.cpu _ c.args.seat.now c.mark_inode.new.seat c.requires c.mark_inode.ensures.marks.2.changes

pub returns-clause-paid : goal.returns-clause-paid
returns-clause-paid c = marked_owes_none c.args.throttle.now (setting c.args.throttle.now.layout) c.args.cpu c.args.inode c.mark_inode.ensures.marks.0 c.args.seat.now c.mark_inode.new.seat c.requires c.mark_inode.ensures.marks.2
