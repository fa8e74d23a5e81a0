use Rattle.wbt_table.proofs.Trying.{after_changes}
use Rattle.throttle_in_use.proofs.inodes.clear.Goals as goal

pub returns : goal.returns
returns c = after_changes c.args.throttle.now c.args.cpu _ c.args.seat.now c.clear_inode.new.seat c.requires c.clear_inode.ensures.1.changes
