use Rattle.std.proofs.Common.{◌≡◌}
use Rattle.wbt_kit.specs.Opening as spec
use Rattle.wbt_kit.proofs.devices.queue_sizes.Given as goal

abbrev pub invariant-loop-device : goal.invariant-loop-device
invariant-loop-device l = l.sizes ≡ spec.sizes_of l.trace l.device
