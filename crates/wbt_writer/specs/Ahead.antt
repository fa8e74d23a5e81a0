-- Where a task stands among its actions: what it wrote of its pages, and what it still writes.
use Rattle.std.specs.Prelude.{◌≡◌, ℕ, ◌+◌, ◌^◌, ◌<◌, ◌≤◌, Bool, Some, None, List, ◌∷◌, length, flat_map, drop, slice_get}
use Rattle.wbt_journal.specs.Machine.{pages_of_action, pages_of_task, rests_after, rests_last}
use Rattle.wbt_num.specs.declared.most.TheConstants.{MOST_PAGES}
use Rattle.wbt_rules.specs.Pace.{pace_of, pause_of}
use Rattle.wbt_trace.specs.Sofar.{inode_at}
use Rattle.wbt_trace.specs.declared.trace.Action.{Action}
use Rattle.wbt_trace.specs.declared.trace.Action.TheVariants.{Write, Rest}
use Rattle.wbt_trace.specs.declared.trace.Inode.{Inode}
use Rattle.wbt_trace.specs.declared.trace.Trace.{Trace}
use Rattle.wbt_writer.specs.declared.task.TaskPlace.{TaskPlace}
use Rattle.wbt_writer.specs.declared.task.Next.{Next}
use Rattle.wbt_writer.specs.declared.task.Next.TheVariants as next

-- the task of an action
abbrev pub by_of : (action : Action) → ℕ
by_of (Write by inode from pages) = by
by_of (Rest by ticks) = by

-- how many pages an action writes
abbrev pub pages_in : (action : Action) → ℕ
pages_in (Write by inode from pages) = pages
pages_in (Rest by ticks) = 0

-- the pages of the task's actions from a place on
abbrev pub pages_from : (trace : Trace) (task at : ℕ) → List ℕ
pages_from trace task at = flat_map (pages_of_action trace.inodes task) (drop at trace.actions)

-- the pages that it still writes
abbrev pub ahead : (trace : Trace) (task : ℕ) (t : TaskPlace) → List ℕ
ahead trace task t = drop t.done (pages_from trace task t.at)

-- no action of the task stands from one place to another
pub record Skips (task from to : ℕ) (actions : List Action) : Type 0 where
  pub pages : (inodes : List Inode) → flat_map (pages_of_action inodes task) (drop from actions) ≡ flat_map (pages_of_action inodes task) (drop to actions)
  pub rests : (so_far : Bool) → rests_after task so_far (drop from actions) ≡ rests_after task so_far (drop to actions)

-- an action of the task, which is not over
abbrev pub IsUnderWay : (task done : ℕ) (action : Action) → Type 0
IsUnderWay task done (Write by inode from pages) = (by ≡ task) × (done < pages)
IsUnderWay task done (Rest by ticks) = (by ≡ task) × (done ≡ 0)

-- the task stands where it has written so many of its pages
pub record IsAlong (trace : Trace) (task : ℕ) (t : TaskPlace) : Type 0 where
  pub still : ahead trace task t ≡ drop t.written (pages_of_task trace task)
  pub todo : t.todo ≡ length (ahead trace task t)
  pub few : t.written + t.todo ≤ 2 ^ 40
  pub place : t.at ≤ length trace.actions
  pub under_way : (action : Action) → slice_get trace.actions t.at ≡ Some action → IsUnderWay task t.done action
  pub rests : (so_far : Bool) → t.at < length trace.actions → rests_after task so_far (drop t.at trace.actions) ≡ t.rests_last
  pub last_is : t.rests_last ≡ rests_last trace task
  pub since : t.since ≤ MOST_PAGES

-- the first page of an inode
abbrev pub first_page : (trace : Trace) (inode : ℕ) → ℕ
first_page trace inode = (inode_at inode trace.inodes).first

-- a page of an inode
pub record HasPage (trace : Trace) (inode page : ℕ) : Type 0 where
  pub inode_is : inode < length trace.inodes
  pub page_is : page < (inode_at inode trace.inodes).pages

-- what comes next: the first of the pages ahead, a rest, a rest before that page as the task's pace says, or nothing
abbrev pub ComesNext : (trace : Trace) (task : ℕ) (t : TaskPlace) (next : Next) → Type 0
ComesNext trace task t (next.Write inode page) =
    (HasPage trace inode page × (more : List ℕ) × (ahead trace task t ≡ (first_page trace inode + page) ∷ more))
    × ((from pages : ℕ) × (slice_get trace.actions t.at ≡ Some (Write task inode from pages))) × (pause_of (pace_of trace task) t.since ≡ None)
ComesNext trace task t (next.Rest ticks) = slice_get trace.actions t.at ≡ Some (Rest task ticks)
ComesNext trace task t (next.Pause ticks) =
    (pause_of (pace_of trace task) t.since ≡ Some ticks) × ((inode from pages : ℕ) × (slice_get trace.actions t.at ≡ Some (Write task inode from pages)))
ComesNext trace task t next.Nothing = length trace.actions ≤ t.at
