-- What is shown of the end of a run.
use Rattle.wbt_trace.specs.Lawful.{IsLawful}
use Rattle.wbt_trace.specs.declared.trace.Trace.{Trace}
use Rattle.wbt_replay_order.specs.Claims.Bound.{HasEnded}
use Rattle.wbt_replay_order.specs.Claims.Complete.{CompletesAll}
use Rattle.wbt_replay_order.specs.Kept.InRange.{StaysInRange}

-- the run of a lawful trace ends
abbrev pub RunsEnd : Type 0
RunsEnd = (trace : Trace) → IsLawful trace → StaysInRange trace → HasEnded trace

-- a run that isn't cut off has written every page and leaves nothing
abbrev pub RunsComplete : Type 0
RunsComplete = (trace : Trace) → IsLawful trace → StaysInRange trace → CompletesAll trace
