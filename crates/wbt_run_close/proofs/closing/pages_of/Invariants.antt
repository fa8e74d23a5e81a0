use Rattle.std.proofs.Common.{◌≡◌, ◌+◌, drop}
use Rattle.wbt_trace.specs.Sofar.{pages_in}
use Rattle.wbt_run_close.proofs.closing.pages_of.Given as goal

abbrev pub invariant-loop-inode : goal.invariant-loop-inode
invariant-loop-inode l = l.pages + pages_in (drop l.inode-index l.inodes) ≡ pages_in l.inodes
