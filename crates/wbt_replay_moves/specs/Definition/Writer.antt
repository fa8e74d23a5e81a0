-- A turn of a task: a check where one is due, else a rest, or a write of its next page.
use Rattle.std.specs.Prelude.{ℕ, zero, suc, ◌+◌, ◌-◌, true, false, if◌then◌else◌, ◌==◌, pos, Bool, List, [], ◌∷◌, get_or, set, fold, Option, Some, None}
use Rattle.wbt_trace.specs.declared.trace.Trace.{Trace}
use Rattle.wbt_book.specs.declared.event.Event.TheVariants as event
use Rattle.wbt_counter.specs.declared.counter.Counter.TheVariants.{Domain, Context}
use Rattle.wbt_grant.specs.declared.who.StepKind.TheVariants as kind
use Rattle.wbt_journal.specs.declared.entry.Entry.TheVariants as entry
use Rattle.wbt_task.specs.Allowance.{ended}
use Rattle.wbt_task.specs.History.{wrote_page, wrote_writer}
use Rattle.wbt_task.specs.declared.allowance.CpuLocal.{CpuLocal}
use Rattle.wbt_task.specs.declared.allowance.Due.{Due}
use Rattle.wbt_task.specs.declared.allowance.Due.TheVariants as due
use Rattle.wbt_task.specs.declared.history.Writer.{Writer}
use Rattle.wbt_replay_moves.specs.Definition.Check.{writer_in, writer_of, with_writer}
use Rattle.wbt_replay_moves.specs.Definition.Cpu.{then_do, log_at, owe_at}
use Rattle.wbt_replay_moves.specs.Definition.State.{State, cpu_of, with_cpu, task_of, with_task, stepped, plain_step, with_event, queued}
use Rattle.wbt_rules.specs.Pace.{pause_of, since_after}
use Rattle.wbt_rules.specs.Things.{context_of, device_of, group_of}
use Rattle.wbt_replay_moves.specs.declared.state.ReplayTask.{ReplayTask}
use Rattle.wbt_replay_moves.specs.declared.state.Whose.{Whose}
use Rattle.wbt_replay_moves.specs.declared.state.Whose.TheVariants as whose
use Rattle.wbt_replay_moves.specs.declared.state.ReplayWork.{ReplayWork}
use Rattle.wbt_replay_moves.specs.declared.state.ReplayWork.TheVariants as work
use Rattle.wbt_replay_moves.specs.declared.todo.Todo.{Todo}
use Rattle.wbt_replay_moves.specs.declared.todo.Todo.TheVariants as todo
use Rattle.wbt_replay_moves.specs.declared.todo.Silent.TheVariants as silent
use Rattle.wbt_replay_moves.specs.declared.todo.Step.TheVariants as step

-- ---- what a turn begins with

-- the loads of a check of a context's writer: the global domain, the context's cgroup, and the context
abbrev pub check_items : (context group : ℕ) → List Todo
check_items context zero =
    todo.Step (step.First 0) ∷ todo.Step (step.Middle 0) ∷ todo.Step (step.Limits 0) ∷ todo.Step (step.Count (Domain 0))
    ∷ todo.Step (step.Count (Context context)) ∷ todo.Silent silent.Decide ∷ todo.Silent silent.End ∷ []
check_items context (suc cgroup) =
    todo.Step (step.First 0) ∷ todo.Step (step.Middle 0) ∷ todo.Step (step.Limits 0) ∷ todo.Step (step.Count (Domain 0))
    ∷ todo.Step (step.First (suc cgroup)) ∷ todo.Step (step.Middle (suc cgroup)) ∷ todo.Step (step.Limits (suc cgroup)) ∷ todo.Step (step.Count (Domain (suc cgroup)))
    ∷ todo.Step (step.Count (Context context)) ∷ todo.Silent silent.Decide ∷ todo.Silent silent.End ∷ []

-- the CPU loads next for a check of a context's writer
abbrev pub begin_check : (trace : Trace) (cpu context : ℕ) (s : State) → State
begin_check trace cpu context s = then_do cpu (check_items context (group_of trace context)) s

-- The task rests from now on.
abbrev pub begin_rest : (cpu task ticks : ℕ) (works : List ReplayWork) (s : State) → State
begin_rest cpu task ticks works s =
    then_do cpu (todo.Silent silent.End ∷ []) (with_task task (record (task_of task s) { works = works; rest = s.now + ticks }) s)

-- the CPU writes a page next, and then the task may end
abbrev pub begin_write : (cpu : ℕ) (s : State) → State
begin_write cpu s = then_do cpu (todo.Step step.Dirty ∷ todo.Silent silent.End ∷ []) s

-- for how many ticks the task rests right before its next page, where it does
abbrev pub pause_in : (t : ReplayTask) → Option ℕ
pause_in t = pause_of t.pace t.since

-- The task rests from now on, before its next page.
abbrev pub begin_pause : (cpu task ticks : ℕ) (s : State) → State
begin_pause cpu task ticks s =
    then_do cpu (todo.Silent silent.End ∷ []) (with_task task (record (task_of task s) { since = 0; rest = s.now + ticks }) s)

-- the task writes its next page, or rests for its pace right before it
abbrev pub begin_page : (cpu task : ℕ) (pause : Option ℕ) (s : State) → State
begin_page cpu task None s = begin_write cpu s
begin_page cpu task (Some ticks) s = begin_pause cpu task ticks s

-- the task begins the first of its works; without any it ends
abbrev pub begin_work : (cpu task : ℕ) (works : List ReplayWork) (s : State) → State
begin_work cpu task [] s = then_do cpu (todo.Silent silent.End ∷ []) s
begin_work cpu task (work.Rest ticks ∷ works) s = begin_rest cpu task ticks works s
begin_work cpu task (work.Write inode page pages ∷ works) s = begin_page cpu task (pause_in (task_of task s)) s

-- the task is checked where its check is due, and else goes on with its works
abbrev pub begin_due : (trace : Trace) (cpu task : ℕ) (due : Due) (s : State) → State
begin_due trace cpu task due.Check s = begin_check trace cpu (task_of task s).context s
begin_due trace cpu task due.No s = begin_work cpu task (task_of task s).works s

-- a task's turn begins
abbrev pub begin_task : (trace : Trace) (cpu task : ℕ) (s : State) → State
begin_task trace cpu task s = begin_due trace cpu task (writer_of (task_of task s)).due s

-- ---- a write

-- the rest of a write whose first page was written
abbrev pub without_page : (inode page pages : ℕ) (works : List ReplayWork) → List ReplayWork
without_page inode page pages works = if pages == 1 then works else work.Write inode (page + 1) (pages - 1) ∷ works

-- the task after it wrote the first page of its first write, before it is known whether the page counts among its writer's
abbrev pub passed_page : (inode page pages : ℕ) (works : List ReplayWork) (t : ReplayTask) → ReplayTask
passed_page inode page pages works t = record t { works = without_page inode page pages works; since = since_after t.pace t.since }

-- what comes after the first
abbrev pub after_first : (works : List ReplayWork) → List ReplayWork
after_first [] = []
after_first (first ∷ works) = works

-- A fresh page counts among the writer's: whether its check is due is known at once, since the CPU does nothing between.
abbrev pub counted_page : (ratelimit_pages context : ℕ) (local : CpuLocal) (t : ReplayTask) → ReplayTask
counted_page ratelimit_pages context local t =
    record (with_writer context (wrote_writer (wrote_page ratelimit_pages local (writer_in context t)) (writer_in context t)) t)
    { context = context }

-- what the CPU counts after the writer's fresh page
abbrev pub counted_local : (ratelimit_pages context : ℕ) (local : CpuLocal) (t : ReplayTask) → CpuLocal
counted_local ratelimit_pages context local t = (wrote_page ratelimit_pages local (writer_in context t)).local

-- the CPU and the task's writer count a fresh page
abbrev pub count_page : (cpu task context : ℕ) (s : State) → State
count_page cpu task context s =
    let c = cpu_of cpu s in
    let t = task_of task s in
    with_cpu cpu (record c { local = counted_local s.ratelimit_pages context c.local t })
    (with_task task (counted_page s.ratelimit_pages context c.local t) s)

-- After a fresh write the counters are settled, and then the inode is marked.
abbrev pub dirty_fresh : (trace : Trace) (cpu task inode page : ℕ) (s : State) → State
dirty_fresh trace cpu task inode page s =
    let context = context_of trace inode in
    stepped cpu kind.Dirty context (pos 1)
    (owe_at cpu (pos 1) context (group_of trace context) (todo.Step (step.Mark inode))
    (log_at cpu (entry.Write task page true)
    (count_page cpu task context (with_event (event.Dirty page) page s))))

-- A write of a page that is dirty already is a step, and nothing else.
abbrev pub dirty_page : (trace : Trace) (cpu task inode page : ℕ) (s : State) → State
dirty_page trace cpu task inode page s =
    if (s.book page).dirty
    then plain_step cpu kind.Dirty (log_at cpu (entry.Write task page false) s)
    else dirty_fresh trace cpu task inode page s

-- the task writes the first page of its first work, which is a write
abbrev pub dirty_next : (trace : Trace) (cpu task : ℕ) (works : List ReplayWork) (s : State) → State
dirty_next trace cpu task [] s = s
dirty_next trace cpu task (work.Rest ticks ∷ works) s = s
dirty_next trace cpu task (work.Write inode page pages ∷ works) s =
    dirty_page trace cpu task inode page (with_task task (passed_page inode page pages works (task_of task s)) s)

-- the turn's task writes its next page
abbrev pub dirty_by : (trace : Trace) (cpu : ℕ) (whose : Whose) (s : State) → State
dirty_by trace cpu (whose.Task task) s = dirty_next trace cpu task (task_of task s).works s
dirty_by trace cpu (whose.Flusher flusher) s = s

-- The task writes its next page.
abbrev pub dirty : (trace : Trace) (cpu : ℕ) (s : State) → State
dirty trace cpu s = dirty_by trace cpu (cpu_of cpu s).turn.whose s

-- Where the mark was clear, the inode goes into its device's queue.
abbrev pub marked : (trace : Trace) (inode : ℕ) (s : State) → State
marked trace inode s =
    if get_or s.marks inode true then s else queued (device_of trace inode) inode (record s { marks = set s.marks inode true })

-- the step that marks an inode
abbrev pub mark : (trace : Trace) (cpu inode : ℕ) (s : State) → State
mark trace cpu inode s = plain_step cpu kind.Mark (marked trace inode s)

-- ---- the end of a task

-- The pages that its writers have dirtied are the CPU's leaks.
abbrev pub leaked : (local : CpuLocal) (w : Writer) → CpuLocal
leaked local w = ended local w.task

-- the task ends: its CPU gets its writers' leaks, and one task fewer runs
abbrev pub end_now : (cpu task : ℕ) (s : State) → State
end_now cpu task s =
    let c = cpu_of cpu s in
    record (with_cpu cpu (record c { local = fold leaked c.local (task_of task s).writers })
    (with_task task (record (task_of task s) { ended = true }) s)) { running = s.running - 1 }

-- A task that has nothing left to do and no check due ends at the end of its turn, whatever rest it has.
abbrev pub has_nothing : (works : List ReplayWork) (due : Due) → Bool
has_nothing [] due.No = true
has_nothing [] due.Check = false
has_nothing (first ∷ works) due = false

-- the turn's task ends where it has nothing left to do and no check due
abbrev pub end_by : (cpu : ℕ) (whose : Whose) (s : State) → State
end_by cpu (whose.Task task) s =
    if has_nothing (task_of task s).works (writer_of (task_of task s)).due then end_now cpu task s else s
end_by cpu (whose.Flusher flusher) s = s

-- the silent move at which a task may end
abbrev pub end : (cpu : ℕ) (s : State) → State
end cpu s = end_by cpu (cpu_of cpu s).turn.whose s
