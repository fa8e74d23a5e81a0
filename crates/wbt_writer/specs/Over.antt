-- What is over: tasks that have ended have nothing left to do, and no check is due of tasks of other CPUs.
use Rattle.std.specs.Prelude.{◌≡◌, ℕ, ◌<◌, ◌≤◌, Bool, true, false, length, get_or}
use Rattle.wbt_journal.specs.Checks.{NoneDue}
use Rattle.wbt_journal.specs.Machine.{pages_of_task}
use Rattle.wbt_journal.specs.Side.{Side, all_writers, task_of}
use Rattle.wbt_journal.specs.declared.journal.Ending.TheVariants as ending
use Rattle.wbt_task.specs.History.{writer_of}
use Rattle.wbt_task.specs.declared.allowance.Due.TheVariants as due
use Rattle.wbt_trace.specs.declared.trace.Trace.{Trace}
use Rattle.wbt_writer.specs.Counted.{no_name, side_of, task_at, written_of}
use Rattle.wbt_writer.specs.declared.tasks.Tasks.{Tasks}

-- no check of the task's writers is due
abbrev pub HasNoDue : (trace : Trace) (s : Side) (task : ℕ) → Type 0
HasNoDue trace s task = (n : ℕ) → n < length (all_writers trace) → (get_or (all_writers trace) n no_name).task ≡ task → (writer_of s.cpu n).due ≡ due.No

-- a task that has ended has nothing left to do, and no check is due of it or of another CPU's task
pub record IsOver (trace : Trace) (own : ℕ → Bool) (s : Side) : Type 0 where
  pub ended : (task : ℕ) → task < length s.tasks → (task_of s task).has_ended ≡ true → ((task_of s task).todo ≡ 0) × HasNoDue trace s task
  pub elsewhere : (task : ℕ) → own task ≡ false → HasNoDue trace s task

-- whether a task is this CPU's
abbrev pub own_of : (s : Tasks) (task : ℕ) → Bool
own_of s task = (task_at s task).own

-- so it is of the tasks of a CPU
abbrev pub AreOver : (trace : Trace) (s : Tasks) → Type 0
AreOver trace s = IsOver trace (own_of s) (side_of s)

-- nothing is due, and each task of the CPU has written all its pages
pub record IsAllDone (trace : Trace) (s : Tasks) : Type 0 where
  pub none_due : NoneDue ending.Done (side_of s)
  pub all_written : (task : ℕ) → task < length trace.tasks → (task_at s task).own ≡ true → length (pages_of_task trace task) ≤ written_of s task
