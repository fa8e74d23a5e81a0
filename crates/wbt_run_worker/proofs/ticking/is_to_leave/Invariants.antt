use Rattle.std.proofs.Common.{◌≡◌, Bool}
use Rattle.wbt_run_worker.proofs.Common.{TimerSpeaks}
use Rattle.wbt_run_worker.proofs.ticking.is_to_leave.Given as goal

abbrev pub invariant-loop : goal.invariant-loop
invariant-loop g l =
    (goal.iterator-loop g).can_next l.iterator' × (goal.iterator-loop g).is_finite l.iterator'
    × (l.voice.rings ≡ l.fn.voice.rings) × ((refused : Bool) → TimerSpeaks l.condition.signals refused refused l.fn.voice l.voice)
