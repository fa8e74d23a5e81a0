-- What is shown of a run beside the step relation.
use Rattle.wbt_trace.specs.Lawful.{IsLawful}
use Rattle.wbt_trace.specs.declared.trace.Trace.{Trace}
use Rattle.wbt_replay_order.specs.Claims.Bound.{HasEnded}
use Rattle.wbt_replay_order.specs.Claims.Path.{IsFollowed}
use Rattle.wbt_replay_order.specs.Kept.InRange.{StaysInRange}

-- the run of a lawful trace follows the step relation
abbrev pub RunsFollowTheRelation : Type 0
RunsFollowTheRelation = (trace : Trace) → IsLawful trace → StaysInRange trace → HasEnded trace → IsFollowed trace
