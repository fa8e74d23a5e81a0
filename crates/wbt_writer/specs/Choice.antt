-- Which task takes the next turn: from a place on, the first that hasn't ended and doesn't rest, and then from the first on.
use Rattle.std.specs.Prelude.{◌≡◌, ◌<◌, ◌≤◌, ◌⊎◌, ◌&&◌, ℕ, Bool, true, false, not, cond, min, Option, Some, None, length}
use Rattle.wbt_writer.specs.Counted.{task_at}
use Rattle.wbt_writer.specs.declared.task.TaskPlace.{TaskPlace}
use Rattle.wbt_writer.specs.declared.choose.Chosen.{Chosen}
use Rattle.wbt_writer.specs.declared.choose.Chosen.TheVariants as chosen
use Rattle.wbt_writer.specs.declared.choose.Sought.{Sought}
use Rattle.wbt_writer.specs.declared.choose.Sought.TheVariants as sought
use Rattle.wbt_writer.specs.declared.tasks.Tasks.{Tasks}

-- a task of this CPU that hasn't ended
abbrev pub is_open : (t : TaskPlace) → Bool
is_open t = t.own && not t.ended

-- the task is of this CPU and hasn't ended
abbrev pub IsOpen : (t : TaskPlace) → Type 0
IsOpen t = is_open t ≡ true

-- none of these tasks has ended its rest
abbrev pub AllRest : (s : Tasks) (now from to : ℕ) → Type 0
AllRest s now from to = (task : ℕ) → from ≤ task → task < to → IsOpen (task_at s task) → now < (task_at s task).rest

-- the first of these that may begin
pub record IsFirst (s : Tasks) (now from to task : ℕ) : Type 0 where
  pub inside : (from ≤ task) × (task < to)
  pub open_still : IsOpen (task_at s task)
  pub rested : (task_at s task).rest ≤ now
  pub before : AllRest s now from task

-- the least end of a rest among these
pub record IsLeast (s : Tasks) (from to until : ℕ) : Type 0 where
  pub task : ℕ
  pub inside : (from ≤ task) × (task < to)
  pub open_still : IsOpen (task_at s task)
  pub ends : (task_at s task).rest ≡ until
  pub at_most : (other : ℕ) → from ≤ other → other < to → IsOpen (task_at s other) → until ≤ (task_at s other).rest

-- all of these have ended
abbrev pub AllEnded : (s : Tasks) (from to : ℕ) → Type 0
AllEnded s from to = (task : ℕ) → from ≤ task → task < to → is_open (task_at s task) ≡ false

-- what is known of the least end after some tasks
abbrev pub HasLeast : (s : Tasks) (from to : ℕ) (least : Option ℕ) → Type 0
HasLeast s from to None = AllEnded s from to
HasLeast s from to (Some until) = IsLeast s from to until

-- what a search among these tasks finds: the first that may begin, or the least end of their rests
abbrev pub IsSought : (s : Tasks) (now from to : ℕ) (found : Sought) → Type 0
IsSought s now from to (sought.Task task) = IsFirst s now from to task
IsSought s now from to (sought.Nobody least) = AllRest s now from to × HasLeast s from to least

-- what is chosen among all tasks: one that may begin, the moment at which the next may, or that all have ended
abbrev pub IsChosen : (s : Tasks) (now : ℕ) (chosen : Chosen) → Type 0
IsChosen s now (chosen.Task task) =
    IsFirst s now s.next (length s.tasks.items) task ⊎ (AllRest s now s.next (length s.tasks.items) × IsFirst s now 0 s.next task)
IsChosen s now (chosen.Resting until) = AllRest s now 0 (length s.tasks.items) × IsLeast s 0 (length s.tasks.items) until
IsChosen s now chosen.Done = AllEnded s 0 (length s.tasks.items)

-- the sooner of two ends, where there are any
abbrev pub sooner_of : (one other : Option ℕ) → Option ℕ
sooner_of None other = other
sooner_of (Some a) None = Some a
sooner_of (Some a) (Some b) = Some (min a b)

-- the end of a task's rest; none where it has ended or is another CPU's
abbrev pub end_of : (t : TaskPlace) → Option ℕ
end_of t = cond (is_open t) (Some t.rest) None
