-- What the opening asks of a trace, and tasks as they are put together.
use Rattle.std.specs.Prelude.{ℕ, ◌+◌, ◌<◌, ◌≤◌, ◌^◌, false, ◌==◌, List, [], ◌∷◌, ◌++◌, length, get_or, set, replicate, All, Option}
use Rattle.wbt_num.specs.declared.most.TheConstants.{MOST_CPUS, MOST_PAGES, MOST_TASKS, MOST_FLUSHERS, MOST_INODES}
use Rattle.wbt_trace.specs.Sofar.{pages_in}
use Rattle.wbt_trace.specs.declared.trace.Action.{Action}
use Rattle.wbt_trace.specs.declared.trace.Action.TheVariants as action
use Rattle.wbt_trace.specs.declared.trace.Pace.{Pace}
use Rattle.wbt_trace.specs.declared.trace.Trace.{Trace}
use Rattle.wbt_task.specs.History.{new_writer}
use Rattle.wbt_replay_moves.specs.Definition.State.{no_task}
use Rattle.wbt_rules.specs.Things.{inode_of, context_at}
use Rattle.wbt_rules.specs.Thresholds.{DomainFits}
use Rattle.wbt_replay_moves.specs.declared.state.ReplayTask.{ReplayTask}
use Rattle.wbt_replay_moves.specs.declared.state.ReplayWork.{ReplayWork}
use Rattle.wbt_replay_moves.specs.declared.state.ReplayWork.TheVariants as work

-- Its task and its inode are there, and its first page has a number.
abbrev pub ActionFits : (trace : Trace) (a : Action) → Type 0
ActionFits trace (action.Write task inode from pages) =
    (task < length trace.tasks) × (inode < length trace.inodes) × ((inode_of trace inode).first + from < 2 ^ 32)
ActionFits trace (action.Rest task ticks) = task < length trace.tasks

-- The device of each context is there.
abbrev pub ContextsFit : (trace : Trace) → Type 0
ContextsFit trace = (k : ℕ) → k < length trace.contexts → (context_at trace k).device < length trace.devices

-- each domain of the trace has thresholds that fit
abbrev pub DomainsFit : (trace : Trace) → Type 0
DomainsFit trace = (d : ℕ) → d ≤ length trace.cgroups → DomainFits trace d

-- the bounds of a trace that its opening needs
pub record OpeningFits (trace : Trace) : Type 0 where
  pub some_cpu : 1 ≤ trace.cpus
  pub cpus : trace.cpus ≤ MOST_CPUS
  pub pages : pages_in trace.inodes ≤ MOST_PAGES
  pub inodes : length trace.inodes ≤ MOST_INODES
  pub tasks : length trace.tasks ≤ MOST_TASKS
  pub flushers : length trace.flushers ≤ MOST_FLUSHERS
  pub contexts : length trace.contexts < 2 ^ 31
  pub context_devices : ContextsFit trace
  pub cgroups : length trace.cgroups < 2 ^ 31
  pub actions : All (ActionFits trace) trace.actions
  pub domains : DomainsFit trace

-- ---- tasks, one action after another

-- a task with what it does so far, before it is known whether it does anything
abbrev pub task_with : (trace : Trace) (pace : Option Pace) (works : List ReplayWork) → ReplayTask
task_with trace pace works = record {
  works = works;
  rest = 0;
  ended = false;
  context = 0;
  writers = replicate (length trace.contexts) (new_writer trace.cap);
  pace = pace;
  since = 0;
}

-- The task does this after what it does before.
abbrev pub does_too : (w : ReplayWork) (t : ReplayTask) → ReplayTask
does_too w t = record t { works = t.works ++ w ∷ [] }

-- the tasks after one of them is given a further work
abbrev pub doing : (task : ℕ) (w : ReplayWork) (tasks : List ReplayTask) → List ReplayTask
doing task w tasks = set tasks task (does_too w (get_or tasks task no_task))

-- the tasks after an action is put down
abbrev pub put_work : (trace : Trace) (a : Action) (tasks : List ReplayTask) → List ReplayTask
put_work trace (action.Write task inode from pages) tasks = doing task (work.Write inode ((inode_of trace inode).first + from) pages) tasks
put_work trace (action.Rest task ticks) tasks = doing task (work.Rest ticks) tasks

-- A task without actions has ended.
abbrev pub ended_idle : (t : ReplayTask) → ReplayTask
ended_idle t = record t { ended = length t.works == 0 }
