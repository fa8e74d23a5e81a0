-- The tasks of a CPU along its part of a journal: what each still writes, and what the CPU counts for their writers.
use Rattle.std.specs.Prelude.{ℕ, suc, ◌+◌, ◌-◌, Bool, true, false, not, ◌&&◌, ◌==◌, if◌then◌else◌, Option, Some, None, List, [], ◌∷◌, length, map, get_or, set}
use Rattle.std.specs.List.{list_all}
use Rattle.wbt_pause.specs.declared.decision.Decision.{Decision}
use Rattle.wbt_task.specs.History.{Cpu, new_cpu, writer_of, cpu_step, cpu_after}
use Rattle.wbt_task.specs.declared.allowance.Due.{Due}
use Rattle.wbt_task.specs.declared.allowance.Due.TheVariants as due
use Rattle.wbt_task.specs.declared.history.Event.TheVariants as history
use Rattle.wbt_trace.specs.Lawful.{writers_of}
use Rattle.wbt_trace.specs.WriterList.{writers_in_order}
use Rattle.wbt_trace.specs.declared.trace.TaskLine.{TaskLine}
use Rattle.wbt_trace.specs.declared.trace.Trace.{Trace}
use Rattle.wbt_trace.specs.declared.writers.Writer.{Writer}
use Rattle.wbt_journal.specs.Effects.{Write, effect, of_part}
use Rattle.wbt_journal.specs.Items.{Item, begins, tells}
use Rattle.wbt_journal.specs.Machine.{pages_of_task, page_context, ratelimit_pages, rests_last, task_cpu}
use Rattle.wbt_journal.specs.Told.{Told}
use Rattle.wbt_journal.specs.declared.entry.CheckEntry.{CheckEntry}

-- ---- writers by number: the trace's, in order of task and then of context

-- the writers of a trace, a task and a context each
abbrev pub all_writers : (trace : Trace) → List Writer
all_writers trace = writers_in_order (length trace.tasks) (length trace.contexts) (writers_of trace.inodes trace.actions)

-- the number of a task's writer of a context, counted on; past all writers where there is none
abbrev pub number_from : (task context number : ℕ) (writers : List Writer) → ℕ
number_from task context number [] = number
number_from task context number (writer ∷ writers) =
    if writer.task == task && writer.context == context then number else number_from task context (number + 1) writers

-- the number of a task's writer of a context
abbrev pub number_of : (trace : Trace) (task context : ℕ) → ℕ
number_of trace task context = number_from task context 0 (all_writers trace)

-- the numbers of a task's writers, where the first writer of the list has a given number
abbrev pub numbers_from : (task number : ℕ) (writers : List Writer) → List ℕ
numbers_from task number [] = []
numbers_from task number (writer ∷ writers) =
    if writer.task == task then number ∷ numbers_from task (number + 1) writers else numbers_from task (number + 1) writers

-- the numbers of a task's writers
abbrev pub numbers_of : (trace : Trace) (task : ℕ) → List ℕ
numbers_of trace task = numbers_from task 0 (all_writers trace)

-- ---- a CPU's side

-- how many pages a task still writes, and whether it has ended
pub record TaskState : Type 0 where
  pub todo : ℕ
  pub has_ended : Bool

-- what the CPU counts, with all writers, and all tasks by number; those of other CPUs do nothing here
pub record Side : Type 0 where
  pub cpu : Cpu
  pub tasks : List TaskState

-- whether a list has no page
abbrev pub is_empty : (numbers : List ℕ) → Bool
is_empty [] = true
is_empty (page ∷ pages) = false

-- a task without pages has ended at the opening, but for one that rests last
abbrev pub first_state : (trace : Trace) (task : ℕ) → TaskState
first_state trace task = record {
  todo = length (pages_of_task trace task);
  has_ended = not (rests_last trace task) && is_empty (pages_of_task trace task);
}

-- the states of tasks at the opening, of those from a number on
abbrev pub first_states : (trace : Trace) (task : ℕ) (lines : List TaskLine) → List TaskState
first_states trace task [] = []
first_states trace task (line ∷ lines) = first_state trace task ∷ first_states trace (suc task) lines

-- a CPU's side at the opening: nothing is counted, and each task has all its pages to write
abbrev pub first_side : (trace : Trace) → Side
first_side trace = record { cpu = new_cpu trace.cap (length (all_writers trace)); tasks = first_states trace 0 trace.tasks }

-- a task that the trace hasn't: it writes nothing and has ended
abbrev pub no_task : TaskState
no_task = record { todo = 0; has_ended = true }

-- a task's state by its number
abbrev pub task_of : (s : Side) (task : ℕ) → TaskState
task_of s task = get_or s.tasks task no_task

-- ---- whose check is due

-- whether no check is due
abbrev pub is_not_due : (due : Due) → Bool
is_not_due due.No = true
is_not_due due.Check = false

-- whether a writer, by its number, has no check that is due
abbrev pub is_quiet : (s : Side) (number : ℕ) → Bool
is_quiet s number = is_not_due (writer_of s.cpu number).due

-- no writer of the task has a check that is due
abbrev pub is_none_due : (trace : Trace) (s : Side) (task : ℕ) → Bool
is_none_due trace s task = list_all (is_quiet s) (numbers_of trace task)

-- ---- what an entry makes of them

-- a task ends: each of its writers does
abbrev pub end_task : (trace : Trace) (opened task : ℕ) (s : Side) → Side
end_task trace opened task s = record {
  cpu = cpu_after (ratelimit_pages trace opened) trace.cap s.cpu (map history.Ended (numbers_of trace task));
  tasks = set s.tasks task (record { todo = (task_of s task).todo; has_ended = true });
}

-- a task that has no page left to write and no check due ends, but for one that rests last
abbrev pub settle : (trace : Trace) (opened task : ℕ) (s : Side) → Side
settle trace opened task s =
    if not (rests_last trace task) && ((task_of s task).todo == 0 && is_none_due trace s task) then end_task trace opened task s else s

-- one page less to write
abbrev pub with_page : (task : ℕ) (s : Side) → Side
with_page task s = record { cpu = s.cpu; tasks = set s.tasks task (record { todo = (task_of s task).todo - 1; has_ended = (task_of s task).has_ended }) }

-- the CPU counts a fresh page for a task's writer of a context
abbrev pub write_fresh : (trace : Trace) (opened task context : ℕ) (s : Side) → Side
write_fresh trace opened task context s = record {
  cpu = cpu_step (ratelimit_pages trace opened) trace.cap s.cpu (history.Wrote (number_of trace task context));
  tasks = s.tasks;
}

-- the CPU counts a check of a task's writer of a context, with what it decided
abbrev pub check_by : (trace : Trace) (opened task context : ℕ) (decision : Decision) (s : Side) → Side
check_by trace opened task context decision s = record {
  cpu = cpu_step (ratelimit_pages trace opened) trace.cap s.cpu (history.Checked (number_of trace task context) decision);
  tasks = s.tasks;
}

-- ---- along a part

-- an item, or the end of a task that rests last, whose place no line tells
pub data Event : Type 0 where
  item : (item : Item) → Event
  ends : (task : ℕ) → Event

-- whether a CPU that the trace may have is this one
abbrev pub is_on : (cpu : ℕ) (which : Option ℕ) → Bool
is_on cpu None = false
is_on cpu (Some of) = of == cpu

-- whether an entry of a task stands in the part of the task's CPU
abbrev pub is_own_task : (trace : Trace) (cpu task : ℕ) → Bool
is_own_task trace cpu task = is_on cpu (task_cpu trace task)

-- a page that was dirty already costs nothing
abbrev pub write_page : (trace : Trace) (opened task : ℕ) (context : Option ℕ) (fresh : Bool) (s : Side) → Side
write_page trace opened task None fresh s = s
write_page trace opened task (Some context) true s = settle trace opened task (with_page task (write_fresh trace opened task context s))
write_page trace opened task (Some context) false s = settle trace opened task (with_page task s)

-- the side after a write; one of another CPU's task changes nothing
abbrev pub side_after_write : (trace : Trace) (opened cpu : ℕ) (s : Side) (write : Write) → Side
side_after_write trace opened cpu s write =
    if is_own_task trace cpu write.task then write_page trace opened write.task (page_context trace write.page) write.fresh s else s

-- the side after a check; one of another CPU's task changes nothing
abbrev pub side_after_check : (trace : Trace) (opened cpu : ℕ) (s : Side) (check : CheckEntry) → Side
side_after_check trace opened cpu s check =
    if is_own_task trace cpu check.task then settle trace opened check.task (check_by trace opened check.task check.context check.decision s) else s

-- the side after an entry; only writes and checks change it
abbrev pub side_after_told : (trace : Trace) (opened cpu : ℕ) (s : Side) (entry : Told) → Side
side_after_told trace opened cpu s entry =
    of_part (of_part s (side_after_check trace opened cpu s) (effect entry).check) (side_after_write trace opened cpu s) (effect entry).write

-- the side after an item; each CPU's part begins with a new side
abbrev pub side_after_item : (trace : Trace) (opened : ℕ) (s : Side) (item : Item) → Side
side_after_item trace opened s (begins cpu) = first_side trace
side_after_item trace opened s (tells cpu entry) = side_after_told trace opened cpu s entry

-- the side after an event
abbrev pub side_after : (trace : Trace) (opened : ℕ) (s : Side) (event : Event) → Side
side_after trace opened s (item i) = side_after_item trace opened s i
side_after trace opened s (ends task) = end_task trace opened task s
