use Rattle.std.proofs.Common.{◌≡◌, ◌<◌, ◌^◌}
use Rattle.expiry_bench.proofs.shape.take_due.Given as goal

abbrev pub invariant-loop-pair : goal.invariant-loop-pair
invariant-loop-pair l = (l.now < 2 ^ 62) × (l.wheel.inodes ≡ l.fn.wheel.inodes)
