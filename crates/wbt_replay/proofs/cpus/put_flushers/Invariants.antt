use Rattle.std.proofs.Common.{◌≡◌, drop}
use Rattle.wbt_replay_order.specs.Definition.Opening as spec
use Rattle.wbt_replay.proofs.cpus.put_flushers.Given as goal

abbrev pub invariant-loop-flusher : goal.invariant-loop-flusher
invariant-loop-flusher l = spec.flushers_from l.cpu l.flusher (drop l.flusher l.trace.flushers) l.jobs ≡ spec.flushers_from l.cpu 0 l.trace.flushers l.initial.jobs
