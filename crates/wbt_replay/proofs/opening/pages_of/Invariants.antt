use Rattle.std.proofs.Common.{◌≡◌, ◌+◌, drop}
use Rattle.wbt_replay_order.proofs.Common.{pages_in}
use Rattle.wbt_replay.proofs.opening.pages_of.Given as goal

abbrev pub invariant-loop-inode : goal.invariant-loop-inode
invariant-loop-inode l = l.total + pages_in (drop l.inode-index l.inodes) ≡ pages_in l.inodes
