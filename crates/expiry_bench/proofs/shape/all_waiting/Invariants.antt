use Rattle.std.proofs.Common.{◌≡◌}
use Rattle.expiry_bench.proofs.shape.all_waiting.Given as goal

abbrev pub invariant-loop-inode : goal.invariant-loop-inode
invariant-loop-inode l = l.wheel.inodes ≡ l.inodes
