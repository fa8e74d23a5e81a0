-- A run of two CPUs, worked out: a page is written, checked and claimed, given back as its disk fails, claimed again and completed, and the timer takes
-- a turn.
use Rattle.std.specs.Prelude.{ℕ, zero, suc, true, false, List, [], ◌∷◌, ◌++◌, pos}
use Rattle.wbt_counter.specs.declared.counter.Counter.TheVariants.{Context, Domain}
use Rattle.wbt_estimate.specs.declared.estimate.Estimate.{Estimate}
use Rattle.wbt_fraction.specs.Words.{word_of}
use Rattle.wbt_fraction.specs.declared.domain.note.Note.{Note}
use Rattle.wbt_fraction.specs.declared.domain.note.Note.TheVariants.{Found, Added, Period}
use Rattle.wbt_grant.specs.Kinds.{Step, dirty, add, mark, first, middle, limits, count, grant, unmark, look, claim, complete, back, peak, unseal, thresh, publish, run}
use Rattle.wbt_grant.specs.Setting.{Setting}
use Rattle.wbt_grant.specs.State.{State, opening}
use Rattle.wbt_grant.specs.declared.who.Who.TheVariants.{Writer, Cpu, Timer}
use Rattle.wbt_published.specs.Known.{first_one}
use Rattle.wbt_trace.specs.declared.trace.Trace.{Trace}
use Rattle.wbt_journal.specs.Flights.{scanning}
use Rattle.wbt_journal.specs.Items.{tells}
use Rattle.wbt_journal.specs.Side.{Event, item, Side, first_side, side_after}
use Rattle.wbt_journal.specs.Timer.{lines_after}
use Rattle.wbt_journal.specs.Told.{Told, wrote, checked, claimed, batch, done, share, estimated, fault, gave_back}
use Rattle.wbt_journal.specs.Walk.{after}
use Rattle.wbt_journal.specs.declared.entry.CheckEntry.{CheckEntry}
use Rattle.wbt_journal.specs.declared.entry.CpuJournal.{CpuJournal}
use Rattle.wbt_journal.specs.declared.entry.Entry.TheVariants as entry
use Rattle.wbt_journal.specs.declared.journal.Ending.TheVariants as ending
use Rattle.wbt_journal.specs.declared.journal.Journal.{Journal}
use Rattle.wbt_journal.specs.declared.timer.TimerEntry.{TimerEntry}
use Rattle.wbt_journal.specs.declared.timer.TimerEntry.TheVariants as timer
use Rattle.wbt_run_laws.specs.Closed.{opening_lines}
use Rattle.wbt_run_laws.specs.Notes.{Notes}
use Rattle.wbt_run_laws.specs.Shown.{Shown, ShownFlusher, first_shown, none_shown}
use Rattle.wbt_run_laws.specs.Small.{first_limits, small_trace, small_setting, free_check, of_first, knows, notes_of, timer_opened}
use Rattle.wbt_run_laws.specs.Ticks.{Ticked}
use Rattle.wbt_run_laws.specs.Worked.{Run, Worked}

-- two CPUs with a cap of one page, an inode of one page, and a flusher on the second CPU
abbrev pub one_trace : Trace
one_trace = small_trace 2 1 1 1

-- the throttle of this trace
abbrev pub one_setting : Setting
one_setting = small_setting one_trace

-- all steps of the run, in their order
abbrev pub one_steps : List Step
one_steps = dirty 0 0 ∷ add 0 (Context 0) ∷ add 0 (Domain 0) ∷ mark 0 0
    ∷ first 0 0 ∷ middle 0 0 ∷ limits (Writer 0) 0 ∷ count (Writer 0) (Domain 0) ∷ count (Writer 0) (Context 0) ∷ grant 0 1
    ∷ first 1 0 ∷ middle 1 0 ∷ limits (Cpu 1) 0 ∷ count (Cpu 1) (Domain 0) ∷ count (Cpu 1) (Context 0)
    ∷ unmark 1 0 ∷ look 1 0 ∷ claim 1 0 ∷ look 1 0 ∷ back 1 0 ∷ mark 1 0 ∷ unmark 1 0 ∷ look 1 0 ∷ claim 1 0 ∷ complete 1 0 ∷ add 1 (Context 0) ∷ add 1 (Domain 0)
    ∷ count Timer (Domain 0) ∷ peak 0 39 ∷ unseal 0 ∷ thresh 0 first_limits ∷ publish 0 first_limits ∷ []

-- the state in which the table was closed
abbrev pub one_end : State
one_end = run one_setting one_steps (opening one_setting)

-- ---- logs

-- the check after the page, which lets its writer go on
abbrev pub one_check : CheckEntry
one_check = free_check 2 1 (record { version = 0; value = pos 0 })

-- the estimate that the second CPU's pass publishes
abbrev pub second_estimate : Estimate
second_estimate = record { version = 1; bw = 24350; avg = 25600; ratelimit = 25600; balanced = 25600; written_stamp = 0; dirtied_stamp = 0; at = 201 }

-- the logs of both CPUs
abbrev pub one_logs : List CpuJournal
one_logs = record { entries = entry.Write 0 0 true ∷ entry.Check 0 ∷ []; checks = one_check ∷ []; estimates = [] }
    ∷ record {
      entries = entry.Est 0 ∷ entry.Claimed 0 0 ∷ entry.Fault 0 1 ∷ entry.Back 0 0 false ∷ entry.Claimed 0 0 ∷ entry.Batch 0 1 1202 1203 ∷ entry.Done 0 0 ∷ entry.Share 0 0 1 ∷ [];
      checks = [];
      estimates = record { context = 0; estimate = second_estimate } ∷ [];
    } ∷ []

-- what the timer logs in its turn
abbrev pub one_ticked : List TimerEntry
one_ticked = timer.Limits 0 201 first_limits ∷ timer.Period 0 1 ∷ []

-- the journal of the run
abbrev pub one_journal : Journal
one_journal = record {
  timer = opening_lines one_trace 1 one_setting.firsts ++ one_ticked;
  cpus = one_logs;
  steps = [];
  bases = [];
  homes = [];
  left = [];
  strict = [];
  ending = ending.Done;
}

-- what the first CPU's part tells
abbrev pub one_writes : List Told
one_writes = wrote 0 0 true ∷ checked one_check ∷ []

-- what the second CPU's part tells
abbrev pub one_cleans : List Told
one_cleans = estimated (record { context = 0; estimate = second_estimate }) ∷ claimed 0 0 ∷ fault 0 1 ∷ gave_back 0 0 false ∷ claimed 0 0
    ∷ batch 0 1 1202 1203 ∷ done 0 0 ∷ share 0 0 1 ∷ []

-- ---- what the CPUs show and note

-- the events of the first CPU's part
abbrev pub one_events : List Event
one_events = item (tells 0 (wrote 0 0 true)) ∷ item (tells 0 (checked one_check)) ∷ []

-- the tasks and counts of each CPU at last
abbrev pub one_side : (cpu : ℕ) → Side
one_side zero = after (side_after one_trace 1) (first_side one_trace) one_events
one_side (suc cpu) = first_side one_trace

-- how many pages each task wrote at last, as a CPU shows
abbrev pub one_written : (cpu task : ℕ) → ℕ
one_written zero = of_first 1 0
one_written (suc cpu) = λ task. 0

-- the flusher's disk failed once
abbrev pub one_flushers : (cpu flusher : ℕ) → ShownFlusher
one_flushers zero = (first_shown one_trace one_setting.firsts).flushers
one_flushers (suc cpu) = of_first (record { told = record { phase = scanning []; faults = 1 }; waits = [] }) none_shown

-- what each CPU shows at last
abbrev pub one_last : (cpu : ℕ) → Shown
one_last cpu = record {
  held = one_end.cpu cpu;
  firsts = one_setting.firsts;
  side = one_side cpu;
  written = one_written cpu;
  flushers = one_flushers cpu;
}

-- the check read the fraction, the flusher added its page, and the timer began a period
abbrev pub one_read : List Note
one_read = Found 0 (word_of 0 1) ∷ Found 1 (word_of 0 0) ∷ Found 0 (word_of 0 1) ∷ []

-- the notes of the CPU whose flusher added its page
abbrev pub one_added : List Note
one_added = Added 0 (word_of 0 1) 1 ∷ Added 1 (word_of 0 0) 1 ∷ Found 1 (word_of 0 0) ∷ Found 0 (word_of 0 1) ∷ []

-- the notes of the timer, which began a period
abbrev pub one_begun : List Note
one_begun = Period (word_of 0 2) 1 ∷ Found 0 (word_of 0 2) ∷ []

-- what each CPU notes at first
abbrev pub one_first : (cpu : ℕ) → Notes
one_first zero = notes_of [] (knows false [] [] 0)
one_first (suc cpu) = notes_of [] (knows true (first_one ∷ []) [] 0)

-- what each CPU notes at last
abbrev pub one_notes : (cpu : ℕ) → Notes
one_notes zero = notes_of one_read (knows false [] (first_one ∷ []) 0)
one_notes (suc cpu) = notes_of one_added (knows true (first_one ∷ second_estimate ∷ []) (first_one ∷ []) 1)

-- what the timer shows at last
abbrev pub one_timer : Ticked
one_timer = record { held = one_end.timer; lines = after lines_after (timer_opened one_trace).lines one_ticked; shares = of_first one_begun [] }

-- all workers of the run
abbrev pub one_run : Run
one_run = record {
  set = one_setting;
  closed = one_end;
  opened = 1;
  last = one_last;
  first_notes = one_first;
  notes = one_notes;
  ticked = one_ticked;
  timer_stops = 0;
  timer_first = timer_opened one_trace;
  timer_last = one_timer;
  all_shares = of_first (one_begun ++ one_added ++ one_read) [];
  publisher = λ context. 1;
  all_known = of_first (knows true (first_one ∷ second_estimate ∷ []) (first_one ∷ first_one ∷ []) 1) (knows false [] [] 0);
}

-- all that makes a journal lawful is known of this run
abbrev pub OnePageIsWorked : Type 0
OnePageIsWorked = Worked one_trace one_journal one_run
