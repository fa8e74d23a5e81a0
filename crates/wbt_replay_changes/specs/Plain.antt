-- The changes of a CPU's turn that are plain: no page is written, no writer is checked, and no context gets an estimate.
use Rattle.std.specs.Prelude.{ℕ, ◌≡◌, List, ◌∷◌}
use Rattle.wbt_replay_moves.specs.Definition.State.{State, task_of}
use Rattle.wbt_replay_moves.specs.declared.state.ReplayWork.{ReplayWork}
use Rattle.wbt_replay_moves.specs.declared.state.ReplayWork.TheVariants as work
use Rattle.wbt_replay_moves.specs.declared.todo.Silent.{Silent}
use Rattle.wbt_replay_moves.specs.declared.todo.Silent.TheVariants as silent
use Rattle.wbt_replay_moves.specs.declared.todo.Step.{Step}
use Rattle.wbt_replay_moves.specs.declared.todo.Step.TheVariants as step
use Rattle.wbt_replay_changes.specs.Change.{Change}
use Rattle.wbt_replay_changes.specs.Change as change
use Rattle.wbt_replay_changes.specs.Change.Task.{TaskChange}
use Rattle.wbt_replay_changes.specs.Change.Task as task_change

-- the task's first work is a rest, after which these are left
pub record RestsNext (task : ℕ) (left : List ReplayWork) (s : State) : Type 0 where
  pub ticks : ℕ
  pub works : (task_of task s).works ≡ work.Rest ticks ∷ left

-- a task that changes alone rests as its works say, or pauses
abbrev pub IsPlainTask : (task : ℕ) (change : TaskChange) (s : State) → Type 0
IsPlainTask task (task_change.rested until works) s = RestsNext task works s
IsPlainTask task (task_change.paused until) s = Unit {0}

-- the change is plain, and none of the timer's
abbrev pub IsPlain : (change : Change) (s : State) → Type 0
IsPlain (change.of_task task change) s = IsPlainTask task change s
IsPlain (change.of_timer change) s = ⊥
IsPlain (change.rewrote cpu task page works) s = ⊥
IsPlain (change.dirtied cpu task inode page works) s = ⊥
IsPlain (change.checked cpu check) s = ⊥
IsPlain (change.estimated cpu context estimate) s = ⊥
IsPlain (change.raised domain hard) s = ⊥
IsPlain (change.unsealed domain) s = ⊥
IsPlain (change.published domain) s = ⊥
IsPlain (change.renewed domain periods events) s = ⊥
IsPlain other s = Unit {0}

-- it is plain and changes the count of no context
abbrev pub IsUncounted : (change : Change) (s : State) → Type 0
IsUncounted (change.completed cpu flusher context page left) s = ⊥
IsUncounted other s = IsPlain other s

-- it is plain and makes no step
abbrev pub IsSilent : (change : Change) (s : State) → Type 0
IsSilent (change.stepped who kind) s = ⊥
IsSilent other s = IsUncounted other s

-- each step of a CPU's turn makes plain changes, but a write
abbrev pub IsPlainStep : (item : Step) → Type 0
IsPlainStep step.Dirty = ⊥
IsPlainStep other = Unit {0}

-- of these, the completion of a page alone changes a count
abbrev pub IsUncountedStep : (item : Step) → Type 0
IsUncountedStep step.Complete = ⊥
IsUncountedStep other = IsPlainStep other

-- and each silent move makes silent ones, but a check and an estimate
abbrev pub IsPlainMove : (item : Silent) → Type 0
IsPlainMove silent.Decide = ⊥
IsPlainMove (silent.Estimate context) = ⊥
IsPlainMove other = Unit {0}
