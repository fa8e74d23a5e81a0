use Rattle.std.proofs.Common.{◌<◌, length}
use Rattle.wbt_fraction.specs.Several.{IsSeatOf}
use Rattle.shares_bench.proofs.read_all.Given as goal

abbrev pub invariant-loop-round : goal.invariant-loop-round
invariant-loop-round l = IsSeatOf l.shares l.seat × (0 < length l.shares.domains) × (l.wb < length l.shares.homes)
