use Rattle.std.proofs.Common.{◌≡◌, take}
use Rattle.std.specs.List.{sum_by}
use Rattle.wbt_replay_order.proofs.Common.{credit_of}
use Rattle.wbt_forecast.proofs.ticks.credits_of.Given as goal

abbrev pub invariant-loop-cpu : goal.invariant-loop-cpu
invariant-loop-cpu l = l.ticks ≡ sum_by credit_of (take l.cpu-index l.cpus)
