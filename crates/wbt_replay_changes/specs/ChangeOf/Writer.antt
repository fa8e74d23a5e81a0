-- The changes of a task's turn.
use Rattle.std.specs.Prelude.{ℕ, ◌+◌, true, if◌then◌else◌, List, [], ◌∷◌, get_or, Option, Some, None}
use Rattle.wbt_trace.specs.declared.trace.Trace.{Trace}
use Rattle.wbt_grant.specs.declared.who.StepKind.TheVariants as kind
use Rattle.wbt_rules.specs.Things.{group_of}
use Rattle.wbt_task.specs.declared.allowance.Due.{Due}
use Rattle.wbt_task.specs.declared.allowance.Due.TheVariants as due
use Rattle.wbt_replay_moves.specs.Definition.Check.{writer_of, check_of, decision_at}
use Rattle.wbt_replay_moves.specs.Definition.State.{State, cpu_of, task_of}
use Rattle.wbt_replay_moves.specs.Definition.Writer.{check_items, pause_in, without_page, has_nothing}
use Rattle.wbt_replay_moves.specs.declared.state.ReplayWork.{ReplayWork}
use Rattle.wbt_replay_moves.specs.declared.state.ReplayWork.TheVariants as work
use Rattle.wbt_replay_moves.specs.declared.todo.Todo.{Todo}
use Rattle.wbt_replay_moves.specs.declared.todo.Silent.TheVariants as silent
use Rattle.wbt_replay_moves.specs.declared.todo.Step.TheVariants as step
use Rattle.wbt_replay_moves.specs.declared.todo.Todo.TheVariants as todo
use Rattle.wbt_replay_changes.specs.Change.{Change}
use Rattle.wbt_replay_changes.specs.Change as change
use Rattle.wbt_replay_changes.specs.Change.Cpu as cpu_change
use Rattle.wbt_replay_changes.specs.Change.Task as task_change

-- ---- what a turn begins with

-- the CPU does these next, and nothing else changes
abbrev pub plans : (cpu : ℕ) (items : List Todo) → List Change
plans cpu items = change.of_cpu cpu (cpu_change.planned items) ∷ []

-- the task writes its next page, or pauses for its pace right before it
abbrev pub page_changes : (cpu task : ℕ) (pause : Option ℕ) (s : State) → List Change
page_changes cpu task None s = plans cpu (todo.Step step.Dirty ∷ todo.Silent silent.End ∷ [])
page_changes cpu task (Some ticks) s =
    change.of_task task (task_change.paused (s.now + ticks)) ∷ plans cpu (todo.Silent silent.End ∷ [])

-- the task begins the first of its works; without any it ends
abbrev pub work_changes : (cpu task : ℕ) (works : List ReplayWork) (s : State) → List Change
work_changes cpu task [] s = plans cpu (todo.Silent silent.End ∷ [])
work_changes cpu task (work.Rest ticks ∷ works) s =
    change.of_task task (task_change.rested (s.now + ticks) works) ∷ plans cpu (todo.Silent silent.End ∷ [])
work_changes cpu task (work.Write inode page pages ∷ works) s = page_changes cpu task (pause_in (task_of task s)) s

-- the task is checked where its check is due, and else goes on with its works
abbrev pub due_changes : (trace : Trace) (cpu task : ℕ) (due : Due) (s : State) → List Change
due_changes trace cpu task due.Check s = plans cpu (check_items (task_of task s).context (group_of trace (task_of task s).context))
due_changes trace cpu task due.No s = work_changes cpu task (task_of task s).works s

-- what a task's turn begins with
abbrev pub task_changes : (trace : Trace) (cpu task : ℕ) (s : State) → List Change
task_changes trace cpu task s = due_changes trace cpu task (writer_of (task_of task s)).due s

-- ---- its items

-- the first page of a task's first work, which is a write, is dirtied, or was dirty already
abbrev pub write_changes : (trace : Trace) (cpu task : ℕ) (works : List ReplayWork) (s : State) → List Change
write_changes trace cpu task [] s = []
write_changes trace cpu task (work.Rest ticks ∷ works) s = []
write_changes trace cpu task (work.Write inode page pages ∷ works) s =
    if (s.book page).dirty
    then change.rewrote cpu task page (without_page inode page pages works) ∷ change.stepped cpu kind.Dirty ∷ []
    else change.dirtied cpu task inode page (without_page inode page pages works) ∷ []

-- a task writes its next page
abbrev pub dirty_changes : (trace : Trace) (cpu task : ℕ) (s : State) → List Change
dirty_changes trace cpu task s = write_changes trace cpu task (task_of task s).works s

-- the step that marks an inode
abbrev pub mark_changes : (cpu inode : ℕ) (s : State) → List Change
mark_changes cpu inode s =
    if get_or s.marks inode true then change.stepped cpu kind.Mark ∷ [] else change.marked inode ∷ change.stepped cpu kind.Mark ∷ []

-- the writer of the task's last page is checked
abbrev pub decide_changes : (trace : Trace) (cpu task : ℕ) (s : State) → List Change
decide_changes trace cpu task s =
    let context = (task_of task s).context in
    let turn = (cpu_of cpu s).turn in
    change.checked cpu (check_of trace task context turn (decision_at trace context (task_of task s) turn s) s) ∷ []

-- the task ends where it has nothing left to do and no check due
abbrev pub end_changes : (cpu task : ℕ) (s : State) → List Change
end_changes cpu task s =
    if has_nothing (task_of task s).works (writer_of (task_of task s)).due then change.ended cpu task ∷ [] else []
