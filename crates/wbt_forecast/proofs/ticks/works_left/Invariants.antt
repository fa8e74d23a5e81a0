use Rattle.std.proofs.Common.{◌≡◌, take}
use Rattle.std.specs.List.{sum_by}
use Rattle.wbt_replay_order.proofs.Common.{rest_of}
use Rattle.wbt_forecast.proofs.Turning.{turned}
use Rattle.wbt_forecast.proofs.ticks.works_left.Given as goal

abbrev pub invariant-loop-work : goal.invariant-loop-work
invariant-loop-work l = record {
  turns : l.works ≡ turned l._work l.initial.works;
  counts : l.ticks ≡ sum_by rest_of (take l._work l.initial.works);
}
