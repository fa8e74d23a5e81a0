use Rattle.std.proofs.Common.{◌≡◌, take, map}
use Rattle.wbt_replay_order.specs.Definition.Opening as spec
use Rattle.wbt_replay.proofs.opening.first_orders.Given as goal

abbrev pub invariant-loop-order : goal.invariant-loop-order
invariant-loop-order l = l.stretches ≡ map (spec.stretch_of l.trace) (take l.order-index l.trace.order)
