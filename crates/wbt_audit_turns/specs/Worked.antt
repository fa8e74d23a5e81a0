-- What a walk keeps for the ending: how many pages each task has still to write, and how often each disk may still fail.
use Rattle.std.specs.Prelude.{◌≡◌, ℕ, ◌-◌, ◌<◌, Bool, true, false, ◌==◌, if◌then◌else◌, List, length, get_or, count_by}
use Rattle.wbt_rules.specs.declared.moments.TheConstants.{MOST_FAULTS}
use Rattle.wbt_trace.specs.declared.trace.Action.{Action}
use Rattle.wbt_trace.specs.declared.trace.Action.TheVariants as action
use Rattle.wbt_trace.specs.declared.trace.Trace.{Trace}
use Rattle.wbt_journal.specs.declared.entry.Entry.{Entry}
use Rattle.wbt_journal.specs.declared.entry.Entry.TheVariants as entry
use Rattle.wbt_journal.specs.declared.journal.Ending.{Ending}
use Rattle.wbt_journal.specs.declared.journal.Ending.TheVariants as ending
use Rattle.wbt_journal.specs.Leaves.{is_fault_of, writes_of}
use Rattle.wbt_journal.specs.Machine.{pages_of_task}
use Rattle.wbt_journal.specs.Told.{Told}

-- 1 where a test holds, else 0
abbrev pub one_if_so : (test : Bool) → ℕ
one_if_so true = 1
one_if_so false = 0

-- how many pages of a task an action writes
abbrev pub pages_planned : (task : ℕ) (action : Action) → ℕ
pages_planned task (action.Write by inode from pages) = if by == task then pages else 0
pages_planned task (action.Rest by ticks) = 0

-- With the entries to come each task leaves as many pages as with all entries
pub record AreLeft (trace : Trace) (pages : List ℕ) (rest all : List Told) : Type 0 where
  pub tasks : length pages ≡ length trace.tasks
  pub left : (task : ℕ) → task < length pages
      → get_or pages task 0 - count_by (writes_of task) rest ≡ length (pages_of_task trace task) - count_by (writes_of task) all

-- and each disk has as many chances left
pub record HaveChances (trace : Trace) (chances : List ℕ) (rest all : List Told) : Type 0 where
  pub flushers : length chances ≡ length trace.flushers
  pub left : (flusher : ℕ) → flusher < length chances
      → get_or chances flusher 0 - count_by (is_fault_of flusher) rest ≡ MOST_FAULTS - count_by (is_fault_of flusher) all

-- a write, and the completion of a page or that it is given back
abbrev pub is_step_entry : (entry : Entry) → Bool
is_step_entry (entry.Write task page fresh) = true
is_step_entry (entry.Done flusher page) = true
is_step_entry (entry.Back flusher page absorbed) = true
is_step_entry other = false

-- whether an ending is that of a failed flusher
abbrev pub is_faulted_by : (end : Ending) → Bool
is_faulted_by ending.Faulted = true
is_faulted_by other = false
