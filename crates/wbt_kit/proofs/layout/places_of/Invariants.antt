use Rattle.std.proofs.Common.{◌≡◌, map, take}
use Rattle.wbt_kit.specs.Opening as spec
use Rattle.wbt_kit.proofs.layout.places_of.Given as goal

abbrev pub invariant-loop-inode : goal.invariant-loop-inode
invariant-loop-inode l = l.places ≡ map spec.place_of (take l.inode-index l.inodes)
