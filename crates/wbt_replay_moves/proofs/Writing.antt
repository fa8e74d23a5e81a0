-- A task's writers: where there is none, nothing is due. And its works: what comes first is written.
use Rattle.std.proofs.Common.{◌≡◌, ℕ, zero, suc, ◌≤◌, ◌<◌, ◌+◌, refl, List, [], ◌∷◌, Option, Some, None, length, get_or, drop, fold, sum_by, ap, ◌∙◌, arith}
use Rattle.std.proofs.lemmas.List.{get_or_past, at_drop_more, at_drop_all}
use Rattle.std.proofs.lemmas.List.Sums.{sum_by-cons}
use Rattle.std.proofs.lemmas.Option.{none-some}
use Rattle.wbt_task.specs.History.{new_writer}
use Rattle.wbt_task.specs.declared.allowance.CpuLocal.{CpuLocal}
use Rattle.wbt_task.specs.declared.allowance.Due.TheVariants as due
use Rattle.wbt_task.specs.declared.history.Writer.{Writer}
use Rattle.wbt_replay_moves.specs.Definition.Check.{writer_of}
use Rattle.wbt_replay_moves.specs.Definition.State.{State, task_of, with_task}
use Rattle.wbt_replay_moves.specs.Definition.Writer.{after_first, check_items, dirty_next, dirty_page, leaked, passed_page}
use Rattle.wbt_replay_moves.specs.declared.state.ReplayTask.{ReplayTask}
use Rattle.wbt_replay_moves.specs.declared.state.ReplayWork.{ReplayWork}
use Rattle.wbt_replay_moves.specs.declared.state.ReplayWork.TheVariants as work
use Rattle.wbt_counter.specs.declared.counter.Counter.TheVariants.{Domain, Context}
use Rattle.wbt_num.specs.Front.{first}
use Rattle.wbt_replay_moves.specs.declared.todo.Silent.TheVariants as silent
use Rattle.wbt_replay_moves.specs.declared.todo.Step.TheVariants as step
use Rattle.wbt_replay_moves.specs.declared.todo.Todo.TheVariants as todo
use Rattle.wbt_trace.specs.declared.trace.Trace.{Trace}

pub none_due : (t : ReplayTask) → length t.writers ≤ t.context → (writer_of t).due ≡ due.No
unfolding new_writer
none_due t beyond = ap (λ w. w.due) (get_or_past t.writers t.context (new_writer 0) beyond)

or_work : (none : ReplayWork) (found : Option ReplayWork) → ReplayWork
or_work none None = none
or_work none (Some w) = w

-- The task writes what comes first of its works.
pub dirties_next : (trace : Trace) (cpu task inode page pages : ℕ) (works : List ReplayWork) (s : State)
    → first works ≡ Some (work.Write inode page pages)
    → dirty_next trace cpu task works s
    ≡ dirty_page trace cpu task inode page
    (with_task task (passed_page inode page pages (after_first works) (task_of task s)) s)
unfolding or_work
dirties_next trace cpu task inode page pages [] s is = absurd (none-some (work.Write inode page pages) is)
dirties_next trace cpu task inode page pages (w ∷ works) s is =
    ap (λ (v : ReplayWork). dirty_next trace cpu task (v ∷ works) s) (ap (or_work w) is)

-- ---- the leaks of a task that ends

module _ (ws : List Writer) (i : ℕ) (less : i < length ws) where
  pub leaks_more : sum_by (λ (w : Writer). w.task.nr_dirtied) (drop i ws)
      ≡ (get_or ws i (new_writer 0)).task.nr_dirtied + sum_by (λ (w : Writer). w.task.nr_dirtied) (drop (i + 1) ws)
  leaks_more = at_drop_more (sum_by (λ (w : Writer). w.task.nr_dirtied)) ws i (new_writer 0) less
      ∙ sum_by-cons (λ (w : Writer). w.task.nr_dirtied) (get_or ws i (new_writer 0)) (drop (i + 1) ws)

  pub leaked_more : (local : CpuLocal)
      → fold leaked local (drop i ws) ≡ fold leaked (leaked local (get_or ws i (new_writer 0))) (drop (i + 1) ws)
  leaked_more local = at_drop_more (fold leaked local) ws i (new_writer 0) less

pub leaked_end : (ws : List Writer) (i : ℕ) (local : CpuLocal) → length ws ≤ i → fold leaked local (drop i ws) ≡ local
leaked_end ws i local past = at_drop_all (fold leaked local) ws i past

-- the loads of a check where the context has a cgroup
pub check_of_group : (context group : ℕ) → 1 ≤ group
    → todo.Step (step.First 0) ∷ todo.Step (step.Middle 0) ∷ todo.Step (step.Limits 0) ∷ todo.Step (step.Count (Domain 0))
    ∷ todo.Step (step.First group) ∷ todo.Step (step.Middle group) ∷ todo.Step (step.Limits group) ∷ todo.Step (step.Count (Domain group))
    ∷ todo.Step (step.Count (Context context)) ∷ todo.Silent silent.Decide ∷ todo.Silent silent.End ∷ [] ≡ check_items context group
check_of_group context zero some = absurd (omega (arith, some))
check_of_group context (suc cgroup) some = refl
