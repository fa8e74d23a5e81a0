use Rattle.std.proofs.Common.{◌≡◌, length}
use Rattle.wbt_writer.proofs.work.new_waiting.Given as goal

abbrev pub invariant-loop-inode : goal.invariant-loop-inode
invariant-loop-inode l = length l.all.items ≡ l._inode
