use Rattle.std.proofs.Common.{◌≡◌, ◌+◌, drop}
use Rattle.wbt_trace.specs.Sofar.{least_shares}
use Rattle.wbt_rules.proofs.things.least_shares.Given as goal

abbrev pub invariant-loop-device : goal.invariant-loop-device
invariant-loop-device l = l.sum + least_shares (drop l.device-index l.devices) ≡ least_shares l.devices
