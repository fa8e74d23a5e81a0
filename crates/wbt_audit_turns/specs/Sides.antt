-- What the audit keeps of a machine and of a CPU's side, and what stands for it in the definitions.
use Rattle.std.specs.Prelude.{◌≡◌, ℕ, ◌+◌, ◌*◌, ◌^◌, ◌<◌, ◌≤◌, Bool, false, not, ◌&&◌, ◌==◌, List, [], length, map, get_or, slice_get}
use Rattle.wbt_estimate.specs.declared.estimate.Estimate.{Estimate}
use Rattle.wbt_num.specs.declared.most.TheConstants.{MOST_CONTEXTS, MOST_TASKS}
use Rattle.wbt_num.specs.Limits.{IsLawful as AreLimits}
use Rattle.wbt_pause.specs.declared.decision.Decision.{Decision}
use Rattle.wbt_position.specs.declared.ratio.DomainRead.{DomainRead}
use Rattle.wbt_task.specs.Counts.{counted}
use Rattle.wbt_task.specs.History.{Cpu}
use Rattle.wbt_trace.specs.Lawful.{IsLawful}
use Rattle.wbt_trace.specs.declared.trace.Trace.{Trace}
use Rattle.wbt_journal.specs.Estimates.{estimate_in, estimates_of}
use Rattle.wbt_journal.specs.Items.{Item, begins, tells}
use Rattle.wbt_journal.specs.Checks.{same_kind, same_task}
use Rattle.wbt_journal.specs.Machine.{page_context, pages_of_task, ratelimit_pages, rests_last}
use Rattle.wbt_journal.specs.Side.{TaskState, all_writers, number_of, numbers_of}
use Rattle.wbt_journal.specs.Side as spec
use Rattle.wbt_journal.specs.Told.{Told}
use Rattle.wbt_audit_turns.specs.declared.machine.Machine.{Machine}
use Rattle.wbt_audit_turns.specs.declared.machine.TaskPlan.{TaskPlan}
use Rattle.wbt_audit_turns.specs.declared.named.Named.{Named}
use Rattle.wbt_audit_turns.specs.declared.numbers.Numbers.{Numbers}
use Rattle.wbt_audit_turns.specs.declared.side.Side.{Side}
use Rattle.wbt_audit_turns.specs.declared.side.TaskLeft.{TaskLeft}

-- ---- the machine

-- the numbers of a trace's writers, as look-ups
pub record AreNumbersOf (trace : Trace) (numbers : Numbers) : Type 0 where
  pub count : numbers.count ≡ length (all_writers trace)
  pub long : length numbers.table.items ≡ MOST_TASKS * MOST_CONTEXTS
  pub table : (task context : ℕ) → task < MOST_TASKS → context < MOST_CONTEXTS
      → get_or numbers.table.items (MOST_CONTEXTS * task + context) 0 ≡ number_of trace task context
  pub tasks : length numbers.of_tasks.items ≡ length trace.tasks
  pub of_tasks : (task : ℕ) → task < length trace.tasks → get_or numbers.of_tasks.items task [] ≡ numbers_of trace task

-- the plan of a task that isn't there
abbrev pub no_plan : TaskPlan
no_plan = record { pages = 0; rests_last = false }

-- what a task is to do
abbrev pub plan_of : (trace : Trace) (task : ℕ) → TaskPlan
plan_of trace task = record { pages = length (pages_of_task trace task); rests_last = rests_last trace task }

-- a plan for each task: how many pages it writes, and whether it rests last
pub record ArePlansOf (trace : Trace) (plans : List TaskPlan) : Type 0 where
  pub long : length plans ≡ length trace.tasks
  pub each : (task : ℕ) → task < length trace.tasks → get_or plans task no_plan ≡ plan_of trace task

-- what the audit keeps of a trace is what the definitions say of it
pub record IsMachine (machine : Machine) : Type 0 where
  pub lawful : IsLawful machine.trace.now
  pub numbers : AreNumbersOf machine.trace.now machine.numbers
  pub plans : ArePlansOf machine.trace.now machine.tasks.items
  pub contexts : (page : ℕ) → slice_get machine.contexts page ≡ page_context machine.trace.now page
  pub limit : machine.ratelimit_pages ≡ ratelimit_pages machine.trace.now machine.opened
  pub cap : machine.cap ≡ machine.trace.now.cap

-- ---- the side

-- a task as a journal's side has it
abbrev pub state_of : (t : TaskLeft) → TaskState
state_of t = record { todo = t.todo; has_ended = t.has_ended }

-- what the CPU counts, with all writers
abbrev pub cpu_of : (side : Side) → Cpu
cpu_of side = record { local = side.local; writers = side.writers.items }

-- the side of a journal that the audit's side stands for
abbrev pub side_of : (side : Side) → spec.Side
side_of side = record { cpu = cpu_of side; tasks = map state_of side.tasks.items }

-- it has all writers and tasks, and room for fresh pages
pub record Fits (machine : Machine) (side : Side) : Type 0 where
  pub writers : length side.writers.items ≡ length (all_writers machine.trace.now)
  pub tasks : length side.tasks.items ≡ length machine.trace.now.tasks
  pub pages : counted (cpu_of side) + side.room ≤ 2 ^ 46
  pub since : side.local.since_check + side.room ≤ 2 ^ 46

-- ---- estimates and decisions

-- by context there are the estimates that the journal tells
pub record AreNamed (opened contexts : ℕ) (all : List Told) (named : Named) : Type 0 where
  pub opened_at : named.opened ≡ opened
  pub long : length named.of_contexts.items ≡ contexts
  pub each : (context : ℕ) → context < contexts → get_or named.of_contexts.items context [] ≡ estimates_of context all

-- a check's lines tell a decision: all but the mark
abbrev pub tells_decision : (told asked : Decision) → Bool
tells_decision told asked = same_kind told.kind asked.kind && (told.pause == asked.pause && (told.left == asked.left && same_task told.task asked.task))

-- what a task has left when a part begins
abbrev pub at_first : (plan : TaskPlan) → TaskLeft
at_first plan = record { todo = plan.pages; has_ended = not plan.rests_last && plan.pages == 0 }

-- the estimates of a context that an item tells
abbrev pub estimates_in : (context : ℕ) (item : Item) → List Estimate
estimates_in context (begins cpu) = []
estimates_in context (tells cpu entry) = estimate_in context entry

-- what is read of a domain has lawful limits, and no part above the threshold
pub record IsWithin (read : DomainRead) : Type 0 where
  pub limits : AreLimits read.limits
  pub part : read.wb_thresh ≤ read.limits.thresh
