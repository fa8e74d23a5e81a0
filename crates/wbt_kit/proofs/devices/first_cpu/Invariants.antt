use Rattle.std.proofs.Common.{◌≡◌, drop}
use Rattle.wbt_kit.specs.Opening as spec
use Rattle.wbt_kit.proofs.devices.first_cpu.Given as goal

abbrev pub invariant-loop-flusher : goal.invariant-loop-flusher
invariant-loop-flusher l = spec.first_cpu l.device (drop l.flusher-index l.flushers) ≡ spec.first_cpu l.device l.flushers
