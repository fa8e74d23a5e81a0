-- The ledger of each page by the lines of the journal: each dirtying was cleaned once, or is still there.
use Rattle.std.specs.Prelude.{◌≡◌, ℕ, ◌+◌, []}
use Rattle.wbt_trace.specs.declared.trace.Trace.{Trace}
use Rattle.wbt_counter.specs.Sums.{one_if}
use Rattle.wbt_book.specs.Ledger.{Deeds, all_times, dirties, claims, completes}
use Rattle.wbt_replay_order.specs.Claims.Path.{events_told}
use Rattle.wbt_replay_order.specs.Definition.Run.{state_at}
use Rattle.wbt_replay_moves.specs.Definition.State.{State, cpu_of}

-- what the CPU's part of the journal tells of pages
abbrev pub deeds_told : (s : State) (i : ℕ) → Deeds
deeds_told s i = record { events = events_told [] (cpu_of i s).entries; held = [] }

-- Over all CPUs: each fresh write of the page was claimed, or the page is dirty; each claim of it was completed, or the page is
-- under writeback.
pub record IsCleaned (trace : Trace) (s : State) (p : ℕ) : Type 0 where
  pub dirtyings : all_times trace.cpus (dirties p) (deeds_told s) ≡ all_times trace.cpus (claims p) (deeds_told s) + one_if (s.book p).dirty
  pub claimings : all_times trace.cpus (claims p) (deeds_told s) ≡ all_times trace.cpus (completes p) (deeds_told s) + one_if (s.book p).writeback

-- at each moment of the trace's run
abbrev pub AreCleaned : (trace : Trace) → Type 0
AreCleaned trace = (moves p : ℕ) → IsCleaned trace (state_at trace moves) p
