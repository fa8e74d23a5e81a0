use Rattle.std.proofs.Common.{ℕ, ◌<◌}
use Rattle.wbt_table.proofs.Common.{CpuRecord, Has}
use Rattle.wbt_table.proofs.seat.Throttle.holds_all.Given as goal

abbrev pub invariant-loop-cpu : goal.invariant-loop-cpu
invariant-loop-cpu l = (i : ℕ) → i < l.cpu → (r : CpuRecord) × Has l.seat.cpus i r
