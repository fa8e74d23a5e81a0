-- A check of a writer: what it has read, and what the control law decides by it.
use Rattle.std.specs.Prelude.{ℕ, zero, suc, ◌+◌, ◌==◌, if◌then◌else◌, Option, Some, None, set, get_or}
use Rattle.wbt_trace.specs.declared.trace.Trace.{Trace}
use Rattle.wbt_counter.specs.History.{at_least_zero}
use Rattle.wbt_flex.specs.Proportions.{fraction_of}
use Rattle.wbt_flex.specs.declared.half.Half.{Half}
use Rattle.wbt_journal.specs.Checks.{domain_read, cgroup_read}
use Rattle.wbt_journal.specs.declared.entry.CheckEntry.{CheckEntry}
use Rattle.wbt_journal.specs.declared.entry.DomainLine.{DomainLine}
use Rattle.wbt_pause.specs.declared.decision.Decision.{Decision}
use Rattle.wbt_pause.specs.declared.reads.Reads.{Reads}
use Rattle.wbt_strict.specs.Decision.{decision_for}
use Rattle.wbt_task.specs.History.{new_writer, checked_writer}
use Rattle.wbt_task.specs.declared.history.Writer.{Writer}
use Rattle.wbt_replay_moves.specs.Definition.Cpu.{checked}
use Rattle.wbt_replay_moves.specs.Definition.State.{State, cpu_of, with_cpu, task_of, with_task, domain_of, writeback_of}
use Rattle.wbt_rules.specs.Strict.{is_strict}
use Rattle.wbt_rules.specs.Things.{group_of}
use Rattle.wbt_replay_moves.specs.declared.state.Load.{Load}
use Rattle.wbt_replay_moves.specs.declared.state.ReplayTask.{ReplayTask}
use Rattle.wbt_replay_moves.specs.declared.state.ReplayTurn.{ReplayTurn}
use Rattle.wbt_replay_moves.specs.declared.state.Whose.{Whose}
use Rattle.wbt_replay_moves.specs.declared.state.Whose.TheVariants as whose

-- the task's writer in a context
abbrev pub writer_in : (context : ℕ) (t : ReplayTask) → Writer
writer_in context t = get_or t.writers context (new_writer 0)

-- the writer of the task's last page, which is the one whose check may be due
abbrev pub writer_of : (t : ReplayTask) → Writer
writer_of t = writer_in t.context t

-- the task with this writer in a context
abbrev pub with_writer : (context : ℕ) (w : Writer) (t : ReplayTask) → ReplayTask
with_writer context w t = record t { writers = set t.writers context w }

-- what was loaded of a domain, with the fraction of a part of it
abbrev pub line_of : (domain : ℕ) (load : Load) (part : Half) (s : State) → DomainLine
line_of domain load part s = record {
  domain = domain;
  triple = load.version;
  limits = load.limits;
  count = load.count;
  share = fraction_of part (domain_of domain s).events;
}

-- what the turn loaded of the global domain, with the context's fraction of it
abbrev pub global_line : (context : ℕ) (turn : ReplayTurn) (s : State) → DomainLine
global_line context turn s = line_of 0 turn.global (writeback_of context s).part s

-- of the context's cgroup, where it has one
abbrev pub cgroup_line : (group context : ℕ) (turn : ReplayTurn) (s : State) → Option DomainLine
cgroup_line zero context turn s = None
cgroup_line (suc cgroup) context turn s = Some (line_of (suc cgroup) turn.cgroup (writeback_of context s).cgroup_part s)

-- all that a check reads: its domains, its context's count of pages, the number of CPUs and the cap
abbrev pub reads_of : (trace : Trace) (context : ℕ) (turn : ReplayTurn) (s : State) → Reads
reads_of trace context turn s = record {
  global = domain_read trace context (global_line context turn s);
  cgroup = cgroup_read trace context (cgroup_line (group_of trace context) context turn s);
  wb_dirty = at_least_zero turn.context.value;
  cpus = trace.cpus;
  cap = trace.cap;
}

-- by the strict law where the context is one of a strict device
abbrev pub decision_at : (trace : Trace) (context : ℕ) (t : ReplayTask) (turn : ReplayTurn) (s : State) → Decision
decision_at trace context t turn s =
    decision_for (is_strict trace context) (reads_of trace context turn s) (writeback_of context s).estimate (writer_in context t).task s.now

-- the entry of a check: what the turn loaded, the estimate's version, and the decision
abbrev pub check_of : (trace : Trace) (task context : ℕ) (turn : ReplayTurn) (decision : Decision) (s : State) → CheckEntry
check_of trace task context turn decision s = record {
  task = task;
  context = context;
  now = s.now;
  global = global_line context turn s;
  cgroup = cgroup_line (group_of trace context) context turn s;
  count = turn.context;
  estimate = (writeback_of context s).estimate.version;
  decision = decision;
}

-- The writer has what was decided, and its task rests as long.
abbrev pub told_task : (now context : ℕ) (decision : Decision) (t : ReplayTask) → ReplayTask
told_task now context decision t =
    record (with_writer context (checked_writer decision) t) { rest = if decision.pause == 0 then t.rest else now + decision.pause }

-- the state after a task's writer is told what was decided
abbrev pub tell_task : (task context : ℕ) (decision : Decision) (s : State) → State
tell_task task context decision s = with_task task (told_task s.now context decision (task_of task s)) s

-- the check goes into the CPU's part of the journal, and its writer is told what was decided
abbrev pub decide_so : (trace : Trace) (cpu task context : ℕ) (decision : Decision) (s : State) → State
decide_so trace cpu task context decision s =
    with_cpu cpu (checked (check_of trace task context (cpu_of cpu s).turn decision s) (cpu_of cpu s))
    (tell_task task context decision s)

-- a task's writer of a context is checked by what the CPU's turn has loaded
abbrev pub decide_for : (trace : Trace) (cpu task context : ℕ) (s : State) → State
decide_for trace cpu task context s =
    decide_so trace cpu task context (decision_at trace context (task_of task s) (cpu_of cpu s).turn s) s

-- the writer of the task's last page is checked, where the turn is a task's
abbrev pub decide_by : (trace : Trace) (cpu : ℕ) (whose : Whose) (s : State) → State
decide_by trace cpu (whose.Task task) s = decide_for trace cpu task (task_of task s).context s
decide_by trace cpu (whose.Flusher flusher) s = s

-- the CPU decides the check that its turn has loaded for
abbrev pub decide : (trace : Trace) (cpu : ℕ) (s : State) → State
decide trace cpu s = decide_by trace cpu (cpu_of cpu s).turn.whose s
