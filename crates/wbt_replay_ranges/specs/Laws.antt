-- What is shown of every state of a run.
use Rattle.wbt_trace.specs.Lawful.{IsLawful}
use Rattle.wbt_trace.specs.declared.trace.Trace.{Trace}
use Rattle.wbt_replay_order.specs.Kept.InRange.{StaysInRange}

-- all numbers of a lawful trace's run stay in range
abbrev pub RunsStayInRange : Type 0
RunsStayInRange = (trace : Trace) → IsLawful trace → StaysInRange trace
