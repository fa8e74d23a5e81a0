use Rattle.std.proofs.Common.{◌-◌, ◌≤◌, length}
use Rattle.wbt_replay_order.proofs.Common.{steps_of}
use Rattle.wbt_forecast.proofs.counting.made_steps.Given as goal

abbrev pub invariant-counted : goal.invariant-counted
invariant-counted l = l.made ≤ length (steps_of l.steps)

abbrev pub decreases-counted : goal.decreases-counted
decreases-counted l = length (steps_of l.steps) - l.made
