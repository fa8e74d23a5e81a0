-- The allowance of a writer: what a fresh write makes of the writer's numbers and of what its CPU counts, and whether a
-- check is due.
use Rattle.std.specs.Prelude.{ℕ, ◌+◌, ◌-◌, min, Bool, ◌&&◌, ◌||◌, ◌==◌, nat_lt, nat_le, if◌then◌else◌}
use Rattle.wbt_pause.specs.declared.reads.Task.{Task}
use Rattle.wbt_task.specs.declared.allowance.CpuLocal.{CpuLocal}
use Rattle.wbt_task.specs.declared.allowance.Due.{Due}
use Rattle.wbt_task.specs.declared.allowance.Due.TheVariants.{Check, No}
use Rattle.wbt_task.specs.declared.allowance.TheConstants.{EXCEEDED_ALLOWANCE, FIRST_ALLOWANCE}

-- a new writer
unfoldable pub first : Task
first = record { nr_dirtied = 0; nr_dirtied_pause = FIRST_ALLOWANCE; paused_when = 0 }

-- what a writer may dirty before its check: at most `EXCEEDED_ALLOWANCE` pages where it is marked exceeded
abbrev pub allowance_of : (task : Task) (exceeded : Bool) → ℕ
allowance_of task exceeded = if exceeded then min task.nr_dirtied_pause EXCEEDED_ALLOWANCE else task.nr_dirtied_pause

-- nothing, where the CPU made enough fresh writes and the allowance isn't used up
abbrev pub limit_after : (dirtied since allowance ratelimit_pages : ℕ) → ℕ
limit_after dirtied since allowance ratelimit_pages =
    if nat_lt dirtied allowance && nat_le ratelimit_pages since then 0 else allowance

-- the CPU counts anew where the allowance is used up, or where it made enough fresh writes
abbrev pub since_after : (dirtied since allowance ratelimit_pages : ℕ) → ℕ
since_after dirtied since allowance ratelimit_pages =
    if nat_le allowance dirtied || nat_le ratelimit_pages since then 0 else since

-- pages of leaks that become the writer's; none where the limit is reached
abbrev pub moved_at : (leaks dirtied limit : ℕ) → ℕ
moved_at leaks dirtied limit = min leaks (limit - dirtied)

-- a check is due where the limit is reached, and where no page is left
abbrev pub due_at : (dirtied limit left : ℕ) → Due
due_at dirtied limit left = if nat_le limit dirtied || left == 0 then Check else No

-- a writer's numbers, what its CPU counts, and whether a check is due
pub record Page : Type 0 where
  pub local : CpuLocal
  pub task : Task
  pub due : Due

-- the CPU's counts and the writer's numbers, where so many pages of the leaks became the writer's
abbrev pub local_after : (local : CpuLocal) (since moved : ℕ) → CpuLocal
local_after local since moved = record { since_check = since; leaks = local.leaks - moved }

-- the writer's numbers after a fresh write that is counted, with so many pages of leaks moved to it; its allowance and its last pause stay
abbrev pub task_after : (task : Task) (moved : ℕ) → Task
task_after task moved = record {
  nr_dirtied = task.nr_dirtied + 1 + moved;
  nr_dirtied_pause = task.nr_dirtied_pause;
  paused_when = task.paused_when;
}

-- after a fresh write that is counted, under a limit
abbrev pub page_under : (local : CpuLocal) (task : Task) (left since limit : ℕ) → Page
page_under local task left since limit =
    let moved : ℕ = moved_at local.leaks (task.nr_dirtied + 1) limit in
    record {
      local = local_after local since moved;
      task = task_after task moved;
      due = due_at (task.nr_dirtied + 1 + moved) limit left;
    }

-- after a fresh write, with so many pages left after it
unfoldable pub page_after : (local : CpuLocal) (task : Task) (left : ℕ) (exceeded : Bool) (ratelimit_pages : ℕ) → Page
page_after local task left exceeded ratelimit_pages =
    page_under local task left
    (since_after (task.nr_dirtied + 1) (local.since_check + 1) (allowance_of task exceeded) ratelimit_pages)
    (limit_after (task.nr_dirtied + 1) (local.since_check + 1) (allowance_of task exceeded) ratelimit_pages)

-- after the end of a writer's task
unfoldable pub ended : (local : CpuLocal) (task : Task) → CpuLocal
ended local task = record { since_check = local.since_check; leaks = local.leaks + task.nr_dirtied }
