-- A run of one CPU that is halted, worked out: eight pages are written, a fold and a check stand, and all are left dirty. The timer is stopped
-- while the sequence of the limits is odd, so the check tells those that its CPU held at first.
use Rattle.std.specs.Prelude.{ℕ, true, false, List, [], ◌∷◌, ◌++◌, map, pos}
use Rattle.wbt_counter.specs.declared.counter.Counter.TheVariants.{Context, Domain}
use Rattle.wbt_counter.specs.declared.record.Fold.{Fold}
use Rattle.wbt_grant.specs.Kinds.{Step, dirty, add, fold, clear, peak, unseal, first, middle, limits, count, grant, run}
use Rattle.wbt_grant.specs.Setting.{Setting}
use Rattle.wbt_grant.specs.State.{State, opening}
use Rattle.wbt_grant.specs.declared.who.Who.TheVariants.{Writer, Timer}
use Rattle.wbt_published.specs.Known.{first_one}
use Rattle.wbt_trace.specs.declared.trace.Trace.{Trace}
use Rattle.wbt_journal.specs.Items.{tells}
use Rattle.wbt_journal.specs.Side.{Event, item, first_side, side_after}
use Rattle.wbt_journal.specs.Told.{Told, wrote, folded, checked}
use Rattle.wbt_journal.specs.Walk.{after}
use Rattle.wbt_journal.specs.declared.entry.CheckEntry.{CheckEntry}
use Rattle.wbt_journal.specs.declared.entry.CpuJournal.{CpuJournal}
use Rattle.wbt_journal.specs.declared.entry.Entry.{Entry}
use Rattle.wbt_journal.specs.declared.entry.Entry.TheVariants as entry
use Rattle.wbt_journal.specs.declared.journal.Ending.TheVariants as ending
use Rattle.wbt_journal.specs.declared.journal.Journal.{Journal}
use Rattle.wbt_journal.specs.declared.journal.Left.{Left}
use Rattle.wbt_run_laws.specs.Closed.{opening_lines}
use Rattle.wbt_run_laws.specs.Shown.{Shown, first_shown}
use Rattle.wbt_run_laws.specs.Small.{small_trace, small_setting, free_check, of_first, knows, notes_of, timer_opened}
use Rattle.wbt_run_laws.specs.Ticks.{Ticked}
use Rattle.wbt_run_laws.specs.Worked.{Run, Worked}

-- one CPU with a cap of 8 pages, and an inode of 8 pages
abbrev pub eight_trace : Trace
eight_trace = small_trace 1 8 8 0

-- the throttle of this trace
abbrev pub eight_setting : Setting
eight_setting = small_setting eight_trace

-- the steps of a fresh write of a page
abbrev pub page_steps : (page : ℕ) → List Step
page_steps page = dirty 0 page ∷ add 0 (Context 0) ∷ add 0 (Domain 0) ∷ []

-- with the eighth page the context's batch is full
abbrev pub eight_steps : List Step
eight_steps = page_steps 0 ++ page_steps 1 ++ page_steps 2 ++ page_steps 3 ++ page_steps 4 ++ page_steps 5 ++ page_steps 6
    ++ dirty 0 7 ∷ add 0 (Context 0) ∷ fold 0 (Context 0) ∷ clear 0 (Context 0) ∷ add 0 (Domain 0)
    ∷ count Timer (Domain 0) ∷ peak 0 39 ∷ unseal 0
    ∷ first 0 0 ∷ middle 0 0 ∷ limits (Writer 0) 0 ∷ count (Writer 0) (Domain 0) ∷ count (Writer 0) (Context 0) ∷ grant 0 4 ∷ []

-- the state in which the table was closed
abbrev pub eight_end : State
eight_end = run eight_setting eight_steps (opening eight_setting)

-- ---- the log

-- the check after the eighth page, which lets its writer go on
abbrev pub eight_check : CheckEntry
eight_check = free_check 2 4 (record { version = 1; value = pos 8 })

-- the fold of the context's batch of 8 pages
abbrev pub eight_fold : Fold
eight_fold = record { counter = Context 0; version = 1; delta = pos 8 }

-- the numbers of the pages
abbrev pub eight_numbers : List ℕ
eight_numbers = 0 ∷ 1 ∷ 2 ∷ 3 ∷ 4 ∷ 5 ∷ 6 ∷ 7 ∷ []

-- the entry of a fresh write of a page
abbrev pub write_of : (page : ℕ) → Entry
write_of page = entry.Write 0 page true

-- a page that is left dirty
abbrev pub dirty_page : (page : ℕ) → Left
dirty_page page = record { page = page; word = 1 }

-- the log of the CPU
abbrev pub eight_log : CpuJournal
eight_log = record { entries = map write_of eight_numbers ++ entry.Folded eight_fold ∷ entry.Check 0 ∷ []; checks = eight_check ∷ []; estimates = [] }

-- the journal of the run
abbrev pub eight_journal : Journal
eight_journal = record {
  timer = opening_lines eight_trace 1 eight_setting.firsts;
  cpus = eight_log ∷ [];
  steps = [];
  bases = [];
  homes = [];
  left = map dirty_page eight_numbers;
  strict = [];
  ending = ending.Halted;
}

-- what the journal tells of a fresh write of a page
abbrev pub wrote_page : (page : ℕ) → Told
wrote_page page = wrote 0 page true

-- what the CPU's part tells
abbrev pub eight_told : List Told
eight_told = map wrote_page eight_numbers ++ folded eight_fold ∷ checked eight_check ∷ []

-- ---- what the CPU shows and notes

-- the event of an entry of the CPU
abbrev pub told_event : (e : Told) → Event
told_event e = item (tells 0 e)

-- the events of the CPU's part
abbrev pub eight_events : List Event
eight_events = map told_event eight_told

-- what the CPU shows at last
abbrev pub eight_last : (cpu : ℕ) → Shown
eight_last cpu = record {
  held = eight_end.cpu cpu;
  firsts = eight_setting.firsts;
  side = after (side_after eight_trace 1) (first_side eight_trace) eight_events;
  written = of_first 8 0;
  flushers = (first_shown eight_trace eight_setting.firsts).flushers;
}

-- no line tells the peak that was raised
abbrev pub eight_timer : Ticked
eight_timer = record (timer_opened eight_trace) { held = eight_end.timer }

-- all workers of the run
abbrev pub eight_run : Run
eight_run = record {
  set = eight_setting;
  closed = eight_end;
  opened = 1;
  last = eight_last;
  first_notes = λ cpu. notes_of [] (knows true (first_one ∷ []) [] 0);
  notes = λ cpu. notes_of [] (knows true (first_one ∷ []) (first_one ∷ []) 0);
  ticked = [];
  timer_stops = 1;
  timer_first = timer_opened eight_trace;
  timer_last = eight_timer;
  all_shares = λ domain. [];
  publisher = λ context. 0;
  all_known = of_first (knows true (first_one ∷ []) (first_one ∷ []) 0) (knows false [] [] 0);
}

-- all that makes a journal lawful is known of this run
abbrev pub EightPagesAreWorked : Type 0
EightPagesAreWorked = Worked eight_trace eight_journal eight_run
