-- A task's plan, action by action.
use Rattle.std.specs.Prelude.{ℕ, ◌+◌, true, false}
use Rattle.wbt_trace.specs.declared.trace.Action.{Action}
use Rattle.wbt_trace.specs.declared.trace.Action.TheVariants as action
use Rattle.wbt_audit_turns.specs.declared.machine.TaskPlan.{TaskPlan}

-- the task of an action
abbrev pub by_of : (a : Action) → ℕ
by_of (action.Write task inode from pages) = task
by_of (action.Rest task ticks) = task

-- the plan with an action of the task more
abbrev pub seen_more : (plan : TaskPlan) (a : Action) → TaskPlan
seen_more plan (action.Write task inode from pages) = record { pages = plan.pages + pages; rests_last = false }
seen_more plan (action.Rest task ticks) = record { pages = plan.pages; rests_last = true }
