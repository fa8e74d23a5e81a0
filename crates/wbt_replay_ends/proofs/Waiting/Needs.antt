-- What of a sound state a move needs so that whatever is still to be cleaned waits on: the order lines and the rotation don't matter to it.
use Rattle.std.proofs.Common.{◌≡◌, List, length, Option}
use Rattle.std.specs.List.{count_by}
use Rattle.wbt_replay_order.proofs.Common.{Trace, State, Actor, Stretch, Sound, AreQueues, AreTasks, AreCpus, is_running}
use Rattle.wbt_replay_order.specs.Kept.Sound.{AreFlushers, AreAgreed}

pub record Needs (trace : Trace) (s : State) : Type 0 where
  pub marks : length s.marks ≡ length trace.inodes
  pub queues : AreQueues trace s.queues
  pub tasks : AreTasks trace (length s.steps) s.tasks
  pub flushers : AreFlushers trace s.flushers
  pub cpus : AreCpus trace (length s.steps) s.now s.cpus
  pub agreed : AreAgreed trace s.tasks s.flushers s.cpus
  pub running : s.running ≡ count_by is_running s.tasks

pub needs_of : (trace : Trace) (s : State) → Sound trace s → Needs trace s
needs_of trace s sound =
    let h = sound.holds in
    record { marks = h.marks; queues = h.queues; tasks = h.tasks; flushers = h.flushers; cpus = h.cpus; agreed = h.agreed; running = h.counted.tasks }

pub needs_moved : (trace : Trace) (s : State) (orders : List Stretch) (turn : Option Actor) → Needs trace s → Needs trace (record s { orders = orders; rotation = turn })
needs_moved trace s orders place h =
    record { marks = h.marks; queues = h.queues; tasks = h.tasks; flushers = h.flushers; cpus = h.cpus; agreed = h.agreed; running = h.running }
