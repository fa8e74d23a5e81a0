-- What the code holds of the trace so far.
use Rattle.std.specs.Prelude.{◌≡◌, ℕ, ◌<◌, ◌≤◌, length, Result, Ok, Err}
use Rattle.wbt_num.specs.declared.most.TheConstants.{MOST_WRITERS}
use Rattle.wbt_trace.specs.Sofar.{Sofar}
use Rattle.wbt_trace.specs.WriterList.{with_writer}
use Rattle.wbt_trace_text.specs.declared.builder.Builder.{Builder}
use Rattle.wbt_trace_text.specs.declared.fault.AcceptError.{AcceptError}
use Rattle.wbt_trace_text.specs.declared.fault.AcceptError.TheVariants.{Refused, NoMemory}
use Rattle.wbt_trace_text.specs.declared.fault.Refusal.{Refusal}
use Rattle.wbt_trace_text.specs.declared.fault.Refusal.TheVariants.{Limit}

-- what has been said, of what the builder holds
abbrev pub seen : (b : Builder) → Sofar
seen b = record {
  cpus = b.cpus;
  cap = b.cap;
  ratio = b.ratio;
  bg_ratio = b.bg_ratio;
  bytes = b.bytes;
  bg_bytes = b.bg_bytes;
  avail = b.avail.items;
  devices = b.devices.items;
  cgroups = b.cgroups.items;
  contexts = b.contexts.items;
  inodes = b.inodes.items;
  tasks = b.tasks.items;
  flushers = b.flushers.items;
  actions = b.actions.items;
  writers = b.writers;
  order = b.order.items;
  halt = b.halt;
}

-- The outcome is the definition's, unless memory ran out.
abbrev pub Gives : (result : Result (Unit {0}) AcceptError) (new : Sofar) (outcome : Result Sofar Refusal) → Type 0
Gives (Ok u) new outcome = outcome ≡ Ok new
Gives (Err NoMemory) new outcome = Unit {0}
Gives (Err (Refused refusal)) new outcome = outcome ≡ Err refusal

-- The writers have this one besides, or there would be too many.
abbrev pub GivesWriters : (task context : ℕ) (old new : Sofar) (result : Result (Unit {0}) AcceptError) → Type 0
GivesWriters task context old new (Ok u) =
    (new ≡ record old { writers = with_writer task context old.writers }) × (length (with_writer task context old.writers) ≤ MOST_WRITERS)
GivesWriters task context old new (Err NoMemory) = Unit {0}
GivesWriters task context old new (Err (Refused refusal)) = (refusal ≡ Limit) × (MOST_WRITERS < length (with_writer task context old.writers))
