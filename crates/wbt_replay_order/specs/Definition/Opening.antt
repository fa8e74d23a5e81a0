-- The state of a run before its first step: nothing is dirty, counted, marked or queued.
use Rattle.std.specs.Prelude.{ℕ, zero, suc, ◌+◌, false, not, ◌==◌, ◌&&◌, if◌then◌else◌, pos, List, [], ◌∷◌, ◌++◌, length, map, flat_map, replicate, count_by, None, Option, Some}
use Rattle.wbt_num.specs.declared.limits.Limits.{Limits}
use Rattle.wbt_num.specs.declared.most.TheConstants.{MOST_STEPS}
use Rattle.wbt_trace.specs.Sofar.{pages_in}
use Rattle.wbt_trace.specs.declared.trace.Action.{Action}
use Rattle.wbt_trace.specs.declared.trace.Action.TheVariants as action
use Rattle.wbt_trace.specs.declared.trace.Context.{Context}
use Rattle.wbt_trace.specs.declared.trace.FlusherLine.{FlusherLine}
use Rattle.wbt_trace.specs.declared.trace.Order.{Order}
use Rattle.wbt_trace.specs.declared.trace.Order.TheVariants as order
use Rattle.wbt_trace.specs.declared.trace.Pace.{Pace}
use Rattle.wbt_trace.specs.declared.trace.TaskLine.{TaskLine}
use Rattle.wbt_trace.specs.declared.trace.Trace.{Trace}
use Rattle.wbt_book.specs.Book.{clean}
use Rattle.wbt_journal.specs.Machine.{domains}
use Rattle.wbt_journal.specs.declared.timer.TimerEntry.{TimerEntry}
use Rattle.wbt_journal.specs.declared.timer.TimerEntry.TheVariants as entry
use Rattle.wbt_limits.specs.Thresholds.{ratelimit_pages_of}
use Rattle.wbt_task.specs.History.{new_writer}
use Rattle.wbt_replay_moves.specs.Definition.Cpu.{turn_of}
use Rattle.wbt_replay_moves.specs.Definition.State.{State, no_count, no_half, no_limits}
use Rattle.wbt_rules.specs.First.{first_estimate}
use Rattle.wbt_rules.specs.Pace.{pace_of}
use Rattle.wbt_rules.specs.Strict.{is_strict}
use Rattle.wbt_rules.specs.Things.{inode_of, flusher_device, leads}
use Rattle.wbt_rules.specs.declared.moments.TheConstants.{TIMER_REST, PERIOD_TICKS}
use Rattle.wbt_rules.specs.Thresholds.{first_limits as limits_at}
use Rattle.wbt_replay_moves.specs.declared.state.Actor.TheVariants as actor
use Rattle.wbt_replay_moves.specs.declared.state.Cpu.{Cpu}
use Rattle.wbt_replay_moves.specs.declared.state.Domain.{Domain}
use Rattle.wbt_replay_moves.specs.declared.state.Flusher.{Flusher}
use Rattle.wbt_replay_moves.specs.declared.state.Held.{Held}
use Rattle.wbt_replay_moves.specs.declared.state.ReplayJob.{ReplayJob}
use Rattle.wbt_replay_moves.specs.declared.state.ReplayJob.TheVariants as job
use Rattle.wbt_replay_moves.specs.declared.state.ReplayPhase.TheVariants as phase
use Rattle.wbt_replay_moves.specs.declared.state.Stretch.{Stretch}
use Rattle.wbt_replay_moves.specs.declared.state.Stretch.TheVariants as stretch
use Rattle.wbt_replay_moves.specs.declared.state.ReplayTask.{ReplayTask}
use Rattle.wbt_replay_moves.specs.declared.state.Timer.{Timer}
use Rattle.wbt_replay_moves.specs.declared.state.Whose.TheVariants as whose
use Rattle.wbt_replay_moves.specs.declared.state.ReplayWork.{ReplayWork}
use Rattle.wbt_replay_moves.specs.declared.state.ReplayWork.TheVariants as work
use Rattle.wbt_replay_moves.specs.declared.state.Writeback.{Writeback}
use Rattle.wbt_expiry.specs.Waiting.{Waiting as Wheel}
use Rattle.wbt_rules.specs.Age.{is_ageing}

-- the moment of the opening
abbrev pub opening_moment : ℕ
opening_moment = 1

-- ---- domains and contexts

-- the first limits of a domain
abbrev pub first_limits : (trace : Trace) (domain : ℕ) → Limits
first_limits trace domain = limits_at trace opening_moment domain

-- a domain at the opening, with its first limits
abbrev pub first_domain : (limits : Limits) → Domain
first_domain limits = record { limits = limits; sequence = 0; peak = limits.hard; count = no_count; events = record { period = 0; events = 1 } }

-- so many domains
abbrev pub first_domains : (trace : Trace) (n : ℕ) → List Domain
first_domains trace zero = []
first_domains trace (suc n) = first_domains trace n ++ first_domain (first_limits trace n) ∷ []

-- a context at the opening: it has no page, and the estimate that a context begins with
abbrev pub first_context : (trace : Trace) (context : ℕ) → Writeback
first_context trace context =
    record { count = no_count; written = 0; estimate = first_estimate trace context opening_moment; part = no_half; cgroup_part = no_half }

-- so many contexts
abbrev pub first_contexts : (trace : Trace) (n : ℕ) → List Writeback
first_contexts trace zero = []
first_contexts trace (suc n) = first_contexts trace n ++ first_context trace n ∷ []

-- ---- tasks

-- what an action is to a task: pages are numbered among those of all inodes
abbrev pub work_of : (trace : Trace) (task : ℕ) (action : Action) → List ReplayWork
work_of trace task (action.Write writer inode from pages) =
    if writer == task then work.Write inode ((inode_of trace inode).first + from) pages ∷ [] else []
work_of trace task (action.Rest sleeper ticks) = if sleeper == task then work.Rest ticks ∷ [] else []

-- what actions are to a task, in order
abbrev pub works_of : (trace : Trace) (task : ℕ) (actions : List Action) → List ReplayWork
works_of trace task actions = flat_map (work_of trace task) actions

-- A task without actions has ended.
abbrev pub first_task : (trace : Trace) (pace : Option Pace) (works : List ReplayWork) → ReplayTask
first_task trace pace works = record {
  works = works;
  rest = 0;
  ended = length works == 0;
  context = 0;
  writers = replicate (length trace.contexts) (new_writer trace.cap);
  pace = pace;
  since = 0;
}

-- so many tasks
abbrev pub first_tasks : (trace : Trace) (n : ℕ) → List ReplayTask
first_tasks trace zero = []
first_tasks trace (suc n) = first_tasks trace n ++ first_task trace (pace_of trace n) (works_of trace n trace.actions) ∷ []

-- ---- flushers

-- the device's contexts, after those that are known, of the contexts from a number on
abbrev pub contexts_from : (device number : ℕ) (lines : List Context) (known : List ℕ) → List ℕ
contexts_from device number [] known = known
contexts_from device number (c ∷ cs) known =
    contexts_from device (number + 1) cs (if c.device == device then known ++ number ∷ [] else known)

-- the contexts whose estimates a flusher updates: those of its device, where it is the device's first flusher
abbrev pub measures_of : (trace : Trace) (flusher : ℕ) → List ℕ
measures_of trace flusher =
    if leads trace flusher
    then contexts_from (flusher_device trace flusher) 0 trace.contexts []
    else []

-- the device's strict contexts likewise
abbrev pub strict_from : (trace : Trace) (device number : ℕ) (lines : List Context) (known : List ℕ) → List ℕ
strict_from trace device number [] known = known
strict_from trace device number (c ∷ cs) known =
    strict_from trace device (number + 1) cs (if c.device == device && is_strict trace number then known ++ number ∷ [] else known)

-- the contexts that a flusher weighs: those of its device, where this is strict
abbrev pub weighs_of : (trace : Trace) (flusher : ℕ) → List ℕ
weighs_of trace flusher = strict_from trace (flusher_device trace flusher) 0 trace.contexts []

-- the list of a flusher, in which no inode waits: there is one where its device is ageing
abbrev pub first_wheel : (trace : Trace) (flusher : ℕ) → Option Wheel
first_wheel trace flusher =
    if is_ageing trace (flusher_device trace flusher)
    then Some (record { pairs = []; told = opening_moment; inodes = length trace.inodes })
    else None

-- a flusher at the opening: it is idle and may take a turn at once
abbrev pub first_flusher : (trace : Trace) (flusher : ℕ) → Flusher
first_flusher trace flusher = record {
  phase = phase.Idle 0 false;
  batch = [];
  hard = (first_limits trace 0).hard;
  measures = measures_of trace flusher;
  weighs = weighs_of trace flusher;
  wheel = first_wheel trace flusher;
  places = replicate (length trace.inodes) 0;
}

-- so many flushers
abbrev pub first_flushers : (trace : Trace) (n : ℕ) → List Flusher
first_flushers trace zero = []
first_flushers trace (suc n) = first_flushers trace n ++ first_flusher trace n ∷ []

-- ---- CPUs

-- the CPU's tasks, after those that are known, of the tasks from a number on
abbrev pub tasks_from : (cpu number : ℕ) (lines : List TaskLine) (known : List ℕ) → List ℕ
tasks_from cpu number [] known = known
tasks_from cpu number (t ∷ ts) known = tasks_from cpu (number + 1) ts (if t.cpu == cpu then known ++ number ∷ [] else known)

-- the CPU's flushers likewise
abbrev pub flushers_from : (cpu number : ℕ) (lines : List FlusherLine) (known : List ReplayJob) → List ReplayJob
flushers_from cpu number [] known = known
flushers_from cpu number (f ∷ fs) known =
    flushers_from cpu (number + 1) fs (if f.cpu == cpu then known ++ job.Flusher number ∷ [] else known)

-- The writer side comes first, where the CPU has tasks.
abbrev pub jobs_with : (trace : Trace) (cpu : ℕ) (tasks : List ℕ) → List ReplayJob
jobs_with trace cpu [] = flushers_from cpu 0 trace.flushers []
jobs_with trace cpu (t ∷ ts) = flushers_from cpu 0 trace.flushers (job.Writer ∷ [])

-- What a CPU holds of a domain before its first load.
abbrev pub held_first : (limits : Limits) → Held
held_first limits = record { version = 0; limits = limits }

-- That of so many domains.
abbrev pub first_held : (trace : Trace) (n : ℕ) → List Held
first_held trace zero = []
first_held trace (suc n) = first_held trace n ++ held_first (first_limits trace n) ∷ []

-- a CPU at the opening, with its tasks
abbrev pub cpu_with : (trace : Trace) (cpu : ℕ) (tasks : List ℕ) → Cpu
cpu_with trace cpu tasks = record {
  jobs = jobs_with trace cpu tasks;
  next = 0;
  tasks = tasks;
  next_task = 0;
  turn = turn_of (whose.Task 0) 0;
  todo = [];
  local = record { since_check = 0; leaks = 0 };
  own_domains = replicate (domains trace) (pos 0);
  own_contexts = replicate (length trace.contexts) (pos 0);
  held = first_held trace (domains trace);
  entries = [];
  checks = [];
  estimates = [];
  made = 0;
  stopped = false;
}

-- a CPU at the opening, by its number
abbrev pub first_cpu : (trace : Trace) (cpu : ℕ) → Cpu
first_cpu trace cpu = cpu_with trace cpu (tasks_from cpu 0 trace.tasks [])

-- so many CPUs
abbrev pub first_cpus : (trace : Trace) (n : ℕ) → List Cpu
first_cpus trace zero = []
first_cpus trace (suc n) = first_cpus trace n ++ first_cpu trace n ∷ []

-- ---- order lines, and the timer

-- what an order line asks for
abbrev pub stretch_of : (trace : Trace) (order : Order) → Stretch
stretch_of trace (order.Steps cpu steps) = stretch.Steps (actor.Cpu cpu) steps
stretch_of trace (order.Timer steps) = stretch.Steps actor.Timer steps
stretch_of trace (order.Tick ticks) = stretch.Tick ticks

-- the first limits of so many domains
abbrev pub first_entries : (trace : Trace) (n : ℕ) → List TimerEntry
first_entries trace zero = []
first_entries trace (suc n) = first_entries trace n ++ entry.Limits n opening_moment (first_limits trace n) ∷ []

-- the timer at the opening: its first turn is due after its first wait
abbrev pub first_timer : (trace : Trace) → Timer
first_timer trace = record {
  todo = [];
  began = opening_moment;
  global = 0;
  limits = no_limits;
  next = opening_moment + TIMER_REST;
  period = opening_moment + PERIOD_TICKS;
  entries = first_entries trace (domains trace);
}

-- ---- the state

-- how many tasks haven't ended
abbrev pub running_of : (tasks : List ReplayTask) → ℕ
running_of tasks = count_by (λ t. not t.ended) tasks

-- the state of a trace's run before its first step
unfoldable pub opening : (trace : Trace) → State
opening trace = record {
  now = opening_moment;
  pages = pages_in trace.inodes;
  book = λ page. clean;
  ratelimit_pages = ratelimit_pages_of (first_limits trace 0).thresh trace.cpus;
  domains = first_domains trace (domains trace);
  contexts = first_contexts trace (length trace.contexts);
  marks = replicate (length trace.inodes) false;
  queues = replicate (length trace.devices) [];
  tasks = first_tasks trace (length trace.tasks);
  flushers = first_flushers trace (length trace.flushers);
  cpus = first_cpus trace trace.cpus;
  running = running_of (first_tasks trace (length trace.tasks));
  working = length trace.flushers;
  stopped = 0;
  spent = false;
  orders = map (stretch_of trace) trace.order;
  rotation = None;
  timer = first_timer trace;
  steps = [];
  most = MOST_STEPS;
}
