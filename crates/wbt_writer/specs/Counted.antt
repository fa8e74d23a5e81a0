-- The tasks of a trace as one CPU sees them: the side that a journal shows, and what holds of it.
use Rattle.std.specs.Prelude.{◌≡◌, ◌≢◌, ℕ, ◌+◌, ◌^◌, ◌<◌, ◌≤◌, ◌⊎◌, Bool, true, false, ◌&&◌, cond, nat_lt, List, drop, length, map, get_or, sum_by}
use Rattle.wbt_journal.specs.Checks.{is_due}
use Rattle.wbt_journal.specs.Machine.{ratelimit_pages}
use Rattle.wbt_journal.specs.Side.{Side, TaskState, all_writers, is_own_task, number_of, numbers_from}
use Rattle.wbt_pause.specs.declared.decision.Decision.{Decision}
use Rattle.wbt_task.specs.Counts.{AllHavePagesLeft, counted}
use Rattle.wbt_task.specs.History.{Cpu, writer_of}
use Rattle.wbt_task.specs.declared.allowance.Due.TheVariants as due
use Rattle.wbt_task.specs.declared.history.Event.{Event}
use Rattle.wbt_task.specs.declared.history.Event.TheVariants.{Ended}
use Rattle.wbt_trace.specs.declared.trace.Trace.{Trace}
use Rattle.wbt_trace.specs.declared.writers.Writer.{Writer as Name}
use Rattle.wbt_writer.specs.Ahead.{ComesNext, IsAlong}
use Rattle.wbt_writer.specs.declared.task.Next.TheVariants as next
use Rattle.wbt_writer.specs.declared.tasks.TaskJob.{TaskJob}
use Rattle.wbt_writer.specs.declared.tasks.TaskJob.TheVariants as job
use Rattle.wbt_writer.specs.declared.task.TaskPlace.{TaskPlace}
use Rattle.wbt_writer.specs.declared.tasks.Tasks.{Tasks}

-- what stands for a number that no task has
abbrev pub no_task : TaskPlace
no_task = record {
  own = false;
  at = 0;
  done = 0;
  written = 0;
  todo = 0;
  rests_last = false;
  since = 0;
  ended = true;
  rest = 0;
  writer = 0;
  context = 0;
}

-- what stands for a writer that isn't there
abbrev pub no_name : Name
no_name = record { task = 0; context = 0 }

-- a task by its number
abbrev pub task_at : (s : Tasks) (task : ℕ) → TaskPlace
task_at s task = get_or s.tasks.items task no_task

-- ---- the side of a journal

-- a task as a journal's side has it
abbrev pub state_of : (t : TaskPlace) → TaskState
state_of t = record { todo = t.todo; has_ended = t.ended }

-- what the CPU counts, with all writers
abbrev pub cpu_of : (s : Tasks) → Cpu
cpu_of s = record { local = s.local; writers = s.writers.items }

-- the side of a journal that these tasks show
abbrev pub side_of : (s : Tasks) → Side
side_of s = record { cpu = cpu_of s; tasks = map state_of s.tasks.items }

-- how many pages each task wrote
abbrev pub written_of : (s : Tasks) (task : ℕ) → ℕ
written_of s task = (task_at s task).written

-- ---- what holds of it

-- whether a check of a writer is due
abbrev pub is_due_at : (cpu : Cpu) (n : ℕ) → Bool
is_due_at cpu n = nat_lt n (length cpu.writers) && is_due (writer_of cpu n).due

-- the task's last writer is its own, and no check of its other writers is due
pub record IsLast (trace : Trace) (cpu : Cpu) (task : ℕ) (t : TaskPlace) : Type 0 where
  pub number : t.writer < length cpu.writers → number_of trace task t.context ≡ t.writer
  pub its_own : t.writer < length cpu.writers → get_or (all_writers trace) t.writer no_name ≡ record { task = task; context = t.context }
  pub others : (n : ℕ) → n < length cpu.writers → (get_or (all_writers trace) n no_name).task ≡ task → n ≢ t.writer → (writer_of cpu n).due ≡ due.No

-- a task stands in its actions as it should, and only its last writer's check may be due
pub record IsTaskOf (trace : Trace) (cpu : Cpu) (task : ℕ) (t : TaskPlace) : Type 0 where
  pub along : IsAlong trace task t
  pub last : IsLast trace cpu task t
  -- a task that rests last has ended where no action is left
  pub past : t.ended ≡ false → length trace.actions ≤ t.at → t.rests_last ≡ false

-- a task that hasn't ended has something to do
abbrev pub GoesOn : (trace : Trace) (cpu : Cpu) (t : TaskPlace) → Type 0
GoesOn trace cpu t = t.own ≡ true → t.ended ≡ false → (is_due_at cpu t.writer ≡ true) ⊎ (t.at < length trace.actions)

-- how many pages all tasks still write
abbrev pub all_todo : (tasks : List TaskPlace) → ℕ
all_todo tasks = sum_by (λ (t : TaskPlace). t.todo) tasks

-- pages counted, and those that are still written, stay few
pub record AreFew (cpu : Cpu) (tasks : List TaskPlace) : Type 0 where
  pub pages : all_todo tasks + counted cpu ≤ 2 ^ 46
  pub since : all_todo tasks + cpu.local.since_check ≤ 2 ^ 46
  pub allowances : (n : ℕ) → n < length cpu.writers → (writer_of cpu n).task.nr_dirtied_pause ≤ 2 ^ 47

-- the tasks and writers are the trace's
pub record AreCounted (trace : Trace) (s : Tasks) : Type 0 where
  pub names : s.names.items ≡ all_writers trace
  pub as_long : length s.writers.items ≡ length (all_writers trace)
  pub tasks : length s.tasks.items ≡ length trace.tasks
  pub cap : s.cap ≡ trace.cap
  pub each : (task : ℕ) → task < length trace.tasks → IsTaskOf trace (cpu_of s) task (task_at s task)
  pub few : AreFew (cpu_of s) s.tasks.items
  pub left : AllHavePagesLeft trace.cap (cpu_of s)

-- the tasks and writers are the trace's, and each that hasn't ended has something to do
pub record AreTasksOf (trace : Trace) (s : Tasks) : Type 0 where
  pub counted : AreCounted trace s
  pub go_on : (task : ℕ) → task < length trace.tasks → GoesOn trace (cpu_of s) (task_at s task)

-- they are those of a CPU, of a machine that was opened at a moment
pub record IsFor (trace : Trace) (opened on : ℕ) (s : Tasks) : Type 0 where
  pub ratelimit : s.ratelimit_pages ≡ ratelimit_pages trace opened
  pub own : (task : ℕ) → task < length trace.tasks → (task_at s task).own ≡ is_own_task trace on task

-- ---- what calls keep

-- what never changes
pub record KeepsFixed (old new : Tasks) : Type 0 where
  pub names : new.names.items ≡ old.names.items
  pub ratelimit : new.ratelimit_pages ≡ old.ratelimit_pages
  pub cap : new.cap ≡ old.cap
  pub next : new.next ≡ old.next

-- ends of tasks make no check due, and count no page
pub record OnlyEnds (old new : Cpu) : Type 0 where
  pub long : length new.writers ≡ length old.writers
  pub counted_same : counted new ≡ counted old
  pub since : new.local.since_check ≡ old.local.since_check
  pub quiet : (n : ℕ) → (writer_of old n).due ≡ due.No → (writer_of new n).due ≡ due.No
  pub allowances : (n : ℕ) → n < length old.writers → (writer_of old n).task.nr_dirtied_pause ≤ 2 ^ 47 → (writer_of new n).task.nr_dirtied_pause ≤ 2 ^ 47

-- the ends of a task's writers, from a number on
abbrev pub ends_from : (task number : ℕ) (names : List Name) → List Event
ends_from task number names = map Ended (numbers_from task number (drop number names))

-- what a write of a page makes of its task
pub record Passes (old new : TaskPlace) : Type 0 where
  pub written : new.written ≡ old.written + 1
  pub todo : new.todo + 1 ≡ old.todo
  pub own : new.own ≡ old.own
  pub rest : new.rest ≡ old.rest

-- no other task changes
abbrev pub OthersStay : (task : ℕ) (old new : Tasks) → Type 0
OthersStay task old new = (t : ℕ) → t ≢ task → task_at new t ≡ task_at old t

-- where a check's pause ends, or what the rest was
abbrev pub rest_after : (decision : Decision) (now : ℕ) (t : TaskPlace) → ℕ
rest_after decision now t = cond (nat_lt 0 decision.pause) (now + decision.pause) t.rest

-- what a turn of the task is: a check where one is due, else what comes next
abbrev pub IsJob : (trace : Trace) (s : Tasks) (task : ℕ) (job : TaskJob) → Type 0
IsJob trace s task (job.Check writer context) =
    (is_due_at (cpu_of s) (task_at s task).writer ≡ true) × (writer ≡ (task_at s task).writer) × (context ≡ (task_at s task).context)
IsJob trace s task (job.Rest ticks) =
    (is_due_at (cpu_of s) (task_at s task).writer ≡ false) × ComesNext trace task (task_at s task) (next.Rest ticks)
IsJob trace s task (job.Pause ticks) =
    (is_due_at (cpu_of s) (task_at s task).writer ≡ false) × ComesNext trace task (task_at s task) (next.Pause ticks)
IsJob trace s task (job.Write inode page) =
    (is_due_at (cpu_of s) (task_at s task).writer ≡ false) × ComesNext trace task (task_at s task) (next.Write inode page)

-- it rests for so many ticks: its next action is a rest, or it rests before its next page
abbrev pub RestsFor : (trace : Trace) (s : Tasks) (task ticks : ℕ) → Type 0
RestsFor trace s task ticks = IsJob trace s task (job.Rest ticks) ⊎ IsJob trace s task (job.Pause ticks)
