-- All that is known of a run over threads, from which its journal is lawful.
use Rattle.std.specs.Prelude.{◌≡◌, ℕ, ◌<◌, ◌≤◌, true, false, Some, List, [], ◌++◌, length, get_or}
use Rattle.wbt_fraction.specs.declared.domain.note.Note.{Note}
use Rattle.wbt_grant.specs.Setting.{Setting}
use Rattle.wbt_grant.specs.State.{State}
use Rattle.wbt_num.specs.declared.most.TheConstants.{MOST_PAGE_STEPS}
use Rattle.wbt_published.specs.declared.known.Known.{Known}
use Rattle.wbt_trace.specs.Lawful.{IsLawful}
use Rattle.wbt_trace.specs.declared.trace.Trace.{Trace}
use Rattle.wbt_journal.specs.Checks.{NoneDue}
use Rattle.wbt_journal.specs.Items.{parts_of}
use Rattle.wbt_journal.specs.Lawful.{NamesAreInOrder}
use Rattle.wbt_journal.specs.Machine.{task_cpu, pages_of_task}
use Rattle.wbt_journal.specs.Told.{Told}
use Rattle.wbt_journal.specs.Timer.{lines_after}
use Rattle.wbt_journal.specs.Walk.{after}
use Rattle.wbt_journal.specs.declared.journal.Ending.{Ending}
use Rattle.wbt_journal.specs.declared.journal.Ending.TheVariants as ending
use Rattle.wbt_journal.specs.declared.journal.Journal.{Journal}
use Rattle.wbt_journal.specs.declared.journal.Left.{Left}
use Rattle.wbt_journal.specs.declared.timer.TimerEntry.{TimerEntry}
use Rattle.wbt_run_laws.specs.Closed.{Closed, OpensWith, opening_lines, NotedNothing, SharesTell, PassesTell}
use Rattle.wbt_run_laws.specs.Noted.{NotedSince}
use Rattle.wbt_run_laws.specs.Notes.{Notes}
use Rattle.wbt_run_laws.specs.Phases.{is_failed}
use Rattle.wbt_run_laws.specs.Shown.{Shown, first_shown}
use Rattle.wbt_run_laws.specs.Throttle.{IsThrottleOf}
use Rattle.wbt_run_laws.specs.Ticks.{Ticked, TimerSince}

-- the part of a CPU
abbrev pub part_at : (j : Journal) (cpu : ℕ) → List Told
part_at j cpu = get_or (parts_of j) cpu []

-- ---- how it ended

-- no flusher has failed
abbrev pub NoneFailed : (trace : Trace) (last : ℕ → Shown) → Type 0
NoneFailed trace last = (cpu flusher : ℕ) → cpu < trace.cpus → flusher < length trace.flushers → is_failed ((last cpu).flushers flusher).told.phase ≡ false

-- each task wrote all its pages
abbrev pub AllWritten : (trace : Trace) (last : ℕ → Shown) → Type 0
AllWritten trace last = (task cpu : ℕ) → task_cpu trace task ≡ Some cpu → length (pages_of_task trace task) ≤ (last cpu).written task

-- no inode waits for its age at any flusher
abbrev pub NoneWaits : (trace : Trace) (last : ℕ → Shown) → Type 0
NoneWaits trace last = (cpu flusher : ℕ) → cpu < trace.cpus → ((last cpu).flushers flusher).waits ≡ []

-- a flusher has failed
pub record SomeFailed (trace : Trace) (last : ℕ → Shown) : Type 0 where
  pub cpu : ℕ
  pub flusher : ℕ
  pub cpu_is : cpu < trace.cpus
  pub flusher_is : flusher < length trace.flushers
  pub failed : is_failed ((last cpu).flushers flusher).told.phase ≡ true

-- a CPU made all its page steps
pub record SomeSpent (trace : Trace) (last : ℕ → Shown) : Type 0 where
  pub cpu : ℕ
  pub cpu_is : cpu < trace.cpus
  pub spent : MOST_PAGE_STEPS ≤ (last cpu).held.page_steps

-- what is known of the workers where the run ended so
abbrev pub EndedBy : (trace : Trace) (last : ℕ → Shown) (left : List Left) (ended : Ending) → Type 0
EndedBy trace last left ending.Done = NoneFailed trace last × AllWritten trace last × NoneWaits trace last × (left ≡ [])
EndedBy trace last left ending.Halted = NoneFailed trace last
EndedBy trace last left ending.Spent = NoneFailed trace last × SomeSpent trace last
EndedBy trace last left ending.Faulted = SomeFailed trace last

-- ---- the whole

-- All workers of a run: the setting and the state in which the table was closed, what each CPU and the timer show at last,
-- and what they noted.
pub record Run : Type 0 where
  pub set : Setting
  pub closed : State
  pub opened : ℕ  -- the moment of the opening
  pub last : (cpu : ℕ) → Shown
  pub first_notes : (cpu : ℕ) → Notes
  pub notes : (cpu : ℕ) → Notes
  pub ticked : List TimerEntry  -- the timer's entries after the opening
  pub timer_stops : ℕ  -- how often the gate stopped the timer behind a peak
  pub timer_first : Ticked
  pub timer_last : Ticked
  pub all_shares : (domain : ℕ) → List Note  -- joined
  pub publisher : (context : ℕ) → ℕ  -- the CPU that publishes for it
  pub all_known : (context : ℕ) → Known  -- joined

-- the timer begins with the lines of the opening, has published nothing and noted nothing
pub record OpensTimer (trace : Trace) (r : Run) : Type 0 where
  pub published : r.timer_first.held.published ≡ []
  pub lines : r.timer_first.lines ≡ after lines_after [] (opening_lines trace r.opened r.set.firsts)
  pub shares : (domain : ℕ) → r.timer_first.shares domain ≡ []

-- all that is known of a run and its journal once all workers are joined and the table is closed
pub record Worked (trace : Trace) (j : Journal) (r : Run) : Type 0 where
  pub lawful : IsLawful trace
  pub throttle : IsThrottleOf trace r.set
  -- the journal's parts are the CPUs' logs, and its timer's entries the opening and the timer's log
  pub parts : length j.cpus ≡ trace.cpus
  pub names : NamesAreInOrder j
  pub timer_is : j.timer ≡ opening_lines trace r.opened r.set.firsts ++ r.ticked
  -- what all turns say
  pub since : (cpu : ℕ) → cpu < trace.cpus → NotedSince trace r.opened cpu (part_at j cpu) (first_shown trace r.set.firsts) (r.last cpu) (r.first_notes cpu) (r.notes cpu)
  pub timer_since : TimerSince trace r.opened r.timer_stops r.ticked r.timer_first r.timer_last
  -- what stood before them
  pub opens : OpensWith trace r.opened r.set.firsts
  pub timer_opens : OpensTimer trace r
  pub noted_nothing : (cpu : ℕ) → cpu < trace.cpus → NotedNothing (r.first_notes cpu)
  -- what is known at the end
  pub closed : Closed trace r.set r.closed (λ cpu. (r.last cpu).held) r.timer_last.held j.left
  pub shares_tell : SharesTell trace r.notes r.timer_last.shares r.all_shares
  pub passes_tell : PassesTell trace r.publisher r.first_notes r.notes r.all_known
  pub ended : EndedBy trace r.last j.left j.ending
  pub none_due : (cpu : ℕ) → cpu < trace.cpus → NoneDue j.ending (r.last cpu).side
