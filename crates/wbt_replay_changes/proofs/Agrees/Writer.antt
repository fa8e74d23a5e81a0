-- A task's turn.
use Rattle.std.proofs.Common.{ℕ, true, List, [], ◌∷◌, get_or, Option, Some, None, refl}
use Rattle.wbt_grant.specs.declared.who.StepKind.TheVariants as kind
use Rattle.wbt_task.specs.declared.allowance.Due.{Due}
use Rattle.wbt_task.specs.declared.allowance.Due.TheVariants as due
use Rattle.wbt_replay_moves.specs.Definition.Check.{writer_of, decide_by}
use Rattle.wbt_replay_moves.specs.Definition.Writer.{pause_in, begin_page, begin_work, begin_due, begin_task, dirty_next, dirty_by, mark, end_by, has_nothing}
use Rattle.wbt_replay_moves.specs.declared.state.ReplayWork.{ReplayWork}
use Rattle.wbt_replay_moves.specs.declared.state.ReplayWork.TheVariants as work
use Rattle.wbt_replay_moves.specs.declared.state.Whose.{Whose}
use Rattle.wbt_replay_moves.specs.declared.state.Whose.TheVariants as whose
use Rattle.wbt_trace.specs.declared.trace.Trace.{Trace}
use Rattle.wbt_replay_moves.specs.Definition.State.{State, task_of}
use Rattle.wbt_replay_changes.specs.ChangeOf.Where.{by_task}
use Rattle.wbt_replay_changes.specs.ChangeOf.Writer.{page_changes, work_changes, due_changes, task_changes, write_changes, dirty_changes, mark_changes, decide_changes, end_changes}
use Rattle.wbt_replay_changes.proofs.Agrees.Choice.{IsMade, chosen, stepped_either}

module _ (trace : Trace) (cpu : ℕ) (s : State) where
  page_agrees : (task : ℕ) (pause : Option ℕ) → IsMade trace s (page_changes cpu task pause s) (begin_page cpu task pause s)
  page_agrees task None = refl
  page_agrees task (Some ticks) = refl

  work_agrees : (task : ℕ) (works : List ReplayWork) → IsMade trace s (work_changes cpu task works s) (begin_work cpu task works s)
  work_agrees task [] = refl
  work_agrees task (work.Rest ticks ∷ works) = refl
  work_agrees task (work.Write inode page pages ∷ works) = page_agrees task (pause_in (task_of task s))

  due_agrees : (task : ℕ) (due : Due) → IsMade trace s (due_changes trace cpu task due s) (begin_due trace cpu task due s)
  due_agrees task due.Check = refl
  due_agrees task due.No = work_agrees task (task_of task s).works

  pub task_agrees : (task : ℕ) → IsMade trace s (task_changes trace cpu task s) (begin_task trace cpu task s)
  task_agrees task = due_agrees task (writer_of (task_of task s)).due

  write_agrees : (task : ℕ) (works : List ReplayWork) → IsMade trace s (write_changes trace cpu task works s) (dirty_next trace cpu task works s)
  write_agrees task [] = refl
  write_agrees task (work.Rest ticks ∷ works) = refl
  write_agrees task (work.Write inode page pages ∷ works) = chosen trace s (s.book page).dirty _ _ _ _ refl refl

  pub dirty_agrees : (w : Whose) → IsMade trace s (by_task (dirty_changes trace cpu) w s) (dirty_by trace cpu w s)
  dirty_agrees (whose.Task task) = write_agrees task (task_of task s).works
  dirty_agrees (whose.Flusher flusher) = refl

  pub mark_agrees : (inode : ℕ) → IsMade trace s (mark_changes cpu inode s) (mark trace cpu inode s)
  mark_agrees inode = stepped_either trace s cpu kind.Mark (get_or s.marks inode true) _ _ _ _ refl refl

  pub decide_agrees : (w : Whose) → IsMade trace s (by_task (decide_changes trace cpu) w s) (decide_by trace cpu w s)
  decide_agrees (whose.Task task) = refl
  decide_agrees (whose.Flusher flusher) = refl

  pub end_agrees : (w : Whose) → IsMade trace s (by_task (end_changes cpu) w s) (end_by cpu w s)
  end_agrees (whose.Task task) = chosen trace s (has_nothing (task_of task s).works (writer_of (task_of task s)).due) _ _ _ _ refl refl
  end_agrees (whose.Flusher flusher) = refl
