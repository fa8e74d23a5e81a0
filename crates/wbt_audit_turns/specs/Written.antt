-- What a walk along a part keeps of the pages that tasks wrote.
use Rattle.std.specs.Prelude.{◌≡◌, ℕ, ◌<◌, ◌==◌, List, [], ◌++◌, length, drop, get_or, count_by, flat_map}
use Rattle.wbt_trace.specs.declared.trace.Action.{Action}
use Rattle.wbt_trace.specs.declared.trace.Trace.{Trace}
use Rattle.wbt_journal.specs.Machine.{pages_of_task, pages_of_action}
use Rattle.wbt_audit_turns.specs.Planned.{TaskPages}

-- what stands for a task that isn't there
abbrev pub no_pages : TaskPages
no_pages = record { all = []; left = [] }

-- each task has its plan, which lacks what comes of these actions
pub record ArePlanned (trace : Trace) (plans : List TaskPages) (actions : List Action) : Type 0 where
  pub tasks : length plans ≡ length trace.tasks
  pub all : (task : ℕ) → task < length plans
      → (get_or plans task no_pages).all ++ flat_map (pages_of_action trace.inodes task) actions ≡ pages_of_task trace task

-- each task has its plan, and wrote the first of its pages in this part, as many as it wrote
pub record ShowsWritten (trace : Trace) (plans : List TaskPages) (tasks : List ℕ) : Type 0 where
  pub planned : length plans ≡ length trace.tasks
  pub all : (task : ℕ) → task < length plans → (get_or plans task no_pages).all ≡ pages_of_task trace task
  pub left : (task : ℕ) → task < length plans
      → (get_or plans task no_pages).left ≡ drop (count_by (λ by. by == task) tasks) (pages_of_task trace task)

-- a task has all to write again
abbrev pub all_left : (plan : TaskPages) → TaskPages
all_left plan = record { all = plan.all; left = plan.all }
