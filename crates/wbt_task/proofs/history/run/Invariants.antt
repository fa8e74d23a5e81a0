use Rattle.std.proofs.Common.{◌≡◌, drop}
use Rattle.wbt_task.specs.History.{Along, HasRoom, cpu_after}
use Rattle.wbt_task.proofs.history.run.Given as goal

-- the rest of the history leads where the whole does
abbrev pub invariant-loop-event : goal.invariant-loop-event
invariant-loop-event l = record {
  reaches : cpu_after l.ratelimit_pages l.cap (record { local = l.local; writers = l.writers }) (drop l.event-index l.history)
      ≡ cpu_after l.ratelimit_pages l.cap (record { local = l.initial.local; writers = l.initial.writers }) l.history;
  room : Along HasRoom l.ratelimit_pages l.cap (record { local = l.local; writers = l.writers }) (drop l.event-index l.history);
}
