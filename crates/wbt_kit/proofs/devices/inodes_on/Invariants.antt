use Rattle.std.proofs.Common.{◌≡◌, ◌≤◌, take, count_by}
use Rattle.wbt_kit.specs.Opening as spec
use Rattle.wbt_kit.proofs.devices.inodes_on.Given as goal

abbrev pub invariant-loop-inode : goal.invariant-loop-inode
invariant-loop-inode l = record {
  counted : l.count ≡ count_by (spec.is_on l.trace l.device) (take l.inode-index l.trace.inodes);
  few : l.count ≤ l.inode-index;
}
