-- What is known of a CPU between two turns, and what a turn says of it.
use Rattle.std.specs.Prelude.{◌≡◌, ◌≢◌, ℕ, ◌==◌, List, [], ◌++◌, flat_map, count_by}
use Rattle.wbt_num.specs.declared.limits.Limits.{Limits}
use Rattle.wbt_expiry.specs.declared.due.Due.{Due}
use Rattle.wbt_grant.specs.State.{no_record}
use Rattle.wbt_grant.specs.declared.record.CpuRecord.{CpuRecord}
use Rattle.wbt_trace.specs.declared.trace.Trace.{Trace}
use Rattle.wbt_journal.specs.Checks.{Stands}
use Rattle.wbt_journal.specs.Each.{Each}
use Rattle.wbt_journal.specs.Flights.{ToldFlusher, flusher_of, first_flushers, new_flusher, no_flusher}
use Rattle.wbt_journal.specs.Lawful.{items_among}
use Rattle.wbt_journal.specs.Pages.{PagesAreNext, writes_after}
use Rattle.wbt_journal.specs.Side.{Event, Side, first_side, side_after}
use Rattle.wbt_journal.specs.Told.{Told}
use Rattle.wbt_run_laws.specs.Grew.{Grew}
use Rattle.wbt_run_laws.specs.Held.{limits_in, WereHeld}
use Rattle.wbt_run_laws.specs.Owns.{IsOwn, IsOfWriters, IsOfFlusher}
use Rattle.wbt_run_laws.specs.Phases.{Flew}
use Rattle.wbt_run_laws.specs.Waits.{Waited}
use Rattle.wbt_run_laws.specs.Walks.{items_told, Walked, Walks}

-- what a CPU shows of a flusher
pub record ShownFlusher : Type 0 where
  pub told : ToldFlusher  -- its phase and faults
  pub waits : List Due  -- its waiting list

-- one that told nothing yet
abbrev pub new_shown : ShownFlusher
new_shown = record { told = new_flusher; waits = [] }

-- one that isn't there
abbrev pub none_shown : ShownFlusher
none_shown = record { told = no_flusher; waits = [] }

-- what a CPU shows between two turns
pub record Shown : Type 0 where
  pub held : CpuRecord  -- of the CPU's seat
  pub firsts : (domain : ℕ) → Limits  -- the limits that it held at first
  pub side : Side  -- its tasks, and what it counts for their writers
  pub written : (task : ℕ) → ℕ  -- how many pages each task wrote
  pub flushers : (flusher : ℕ) → ShownFlusher

-- before the first turn
abbrev pub first_shown : (trace : Trace) (firsts : ℕ → Limits) → Shown
first_shown trace firsts = record {
  held = no_record;
  firsts = firsts;
  side = first_side trace;
  written = λ task. 0;
  flushers = λ flusher. record { told = flusher_of (first_flushers trace.flushers) flusher; waits = [] };
}

-- these tasks wrote, and each as often as it shows
abbrev pub HaveWritten : (written : ℕ → ℕ) (tasks : List ℕ) → Type 0
HaveWritten written tasks = (task : ℕ) → count_by (λ by. by == task) tasks ≡ written task

-- along entries each task wrote its next pages
abbrev pub Wrote : (trace : Trace) (cpu : ℕ) (old : ℕ → ℕ) (added : List Told) (new : ℕ → ℕ) → Type 0
Wrote trace cpu old added new = Walks HaveWritten (PagesAreNext trace) writes_after old (items_told cpu added) new

-- Along these events, which are the entries and the ends of tasks that rest last, checks stand where they are due.
pub record SideWalked (trace : Trace) (opened cpu : ℕ) (old : Side) (added : List Told) (new : Side) : Type 0 where
  pub events : List Event
  pub are : items_among events ≡ items_told cpu added
  pub walked : Walked (Stands trace) (side_after trace opened) old events new

-- ---- turns

-- a turn of the CPU's writers
pub record WriterTurn (trace : Trace) (opened cpu : ℕ) (added : List Told) (old new : Shown) : Type 0 where
  pub grew : Grew added old.held new.held
  -- checks tell the limits that the CPU held
  pub held : WereHeld old.firsts (flat_map limits_in added) old.held.triples new.held.triples
  pub firsts_stay : new.firsts ≡ old.firsts
  pub side : SideWalked trace opened cpu old.side added new.side
  pub wrote : Wrote trace cpu old.written added new.written
  pub own : Each (IsOwn trace cpu) added
  pub of_writers : Each IsOfWriters added
  pub flushers_stay : (flusher : ℕ) → new.flushers flusher ≡ old.flushers flusher

-- a turn of one of its flushers
pub record FlusherTurn (trace : Trace) (opened cpu flusher : ℕ) (added : List Told) (old new : Shown) : Type 0 where
  pub grew : Grew added old.held new.held
  pub firsts_stay : new.firsts ≡ old.firsts
  pub flew : Flew flusher (old.flushers flusher).told added (new.flushers flusher).told
  pub waited : Waited trace flusher (old.flushers flusher).waits added (new.flushers flusher).waits
  pub own : Each (IsOwn trace cpu) added
  pub of_flusher : Each (IsOfFlusher flusher) added
  pub others_stay : (g : ℕ) → g ≢ flusher → new.flushers g ≡ old.flushers g
  pub side_stays : new.side ≡ old.side
  pub written_stays : (task : ℕ) → new.written task ≡ old.written task

-- any turns of the CPU, one after another
pub record Since (trace : Trace) (opened cpu : ℕ) (added : List Told) (old new : Shown) : Type 0 where
  pub grew : Grew added old.held new.held
  pub held : WereHeld old.firsts (flat_map limits_in added) old.held.triples new.held.triples
  pub firsts_stay : new.firsts ≡ old.firsts
  pub side : SideWalked trace opened cpu old.side added new.side
  pub wrote : Wrote trace cpu old.written added new.written
  pub flew : (flusher : ℕ) → Flew flusher (old.flushers flusher).told added (new.flushers flusher).told
  pub waited : (flusher : ℕ) → Waited trace flusher (old.flushers flusher).waits added (new.flushers flusher).waits
  pub own : Each (IsOwn trace cpu) added

-- ---- laws

-- a single turn of the CPU's writers counts as turns of the CPU
abbrev pub WriterTurnIsSince : Type 0
WriterTurnIsSince = (trace : Trace) (opened cpu : ℕ) (added : List Told) (old new : Shown)
    → WriterTurn trace opened cpu added old new → Since trace opened cpu added old new

-- a single turn of one of its flushers counts as turns of the CPU
abbrev pub FlusherTurnIsSince : Type 0
FlusherTurnIsSince = (trace : Trace) (opened cpu flusher : ℕ) (added : List Told) (old new : Shown)
    → FlusherTurn trace opened cpu flusher added old new → Since trace opened cpu added old new

-- without a turn all stays as it is
abbrev pub SinceNow : Type 0
SinceNow = (trace : Trace) (opened cpu : ℕ) (shown : Shown) → Since trace opened cpu [] shown shown

-- turns compose, one stretch of them after another
abbrev pub SinceMore : Type 0
SinceMore = (trace : Trace) (opened cpu : ℕ) (a b : List Told) (old mid new : Shown)
    → Since trace opened cpu a old mid → Since trace opened cpu b mid new → Since trace opened cpu (a ++ b) old new
