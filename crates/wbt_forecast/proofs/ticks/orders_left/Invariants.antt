use Rattle.std.proofs.Common.{◌≡◌, take}
use Rattle.std.specs.List.{sum_by}
use Rattle.wbt_replay_order.proofs.Common.{ticks_of}
use Rattle.wbt_forecast.proofs.Turning.{turned}
use Rattle.wbt_forecast.proofs.ticks.orders_left.Given as goal

abbrev pub invariant-loop-line : goal.invariant-loop-line
invariant-loop-line l = record {
  turns : l.orders ≡ turned l._line l.initial.orders;
  counts : l.ticks ≡ sum_by ticks_of (take l._line l.initial.orders);
}
