-- In a sound state a check that is decided next is in a context that there is.
use Rattle.std.proofs.Common.{◌≡◌, ℕ, zero, suc, ◌<◌, ◌≤◌, List, length, All, sym, ◌∙◌, ap, subst, arith}
use Rattle.std.proofs.lemmas.List.{get_or_past}
use Rattle.std.proofs.lemmas.List.Elements.{All-head}
use Rattle.wbt_replay_order.proofs.Common.{new_writer, Writer, Trace, writer_of, State, cpu_of, task_of, ReplayTask, Whose, Todo, Sound, IsWhose, Agrees}
use Rattle.wbt_task.specs.declared.allowance.Due.TheVariants as due
use Rattle.wbt_replay_moves.specs.declared.todo.Silent.TheVariants as move
use Rattle.wbt_replay_moves.specs.declared.todo.Todo.TheVariants as todo
use Rattle.wbt_replay_points.proofs.Claims.Decided.{ChecksFit}

no_writer_due : (new_writer 0).due ≡ due.Check → ⊥
unfolding new_writer
no_writer_due is = cc is

-- where a check is due there is a context
pub some_context : (n : ℕ) (t : ReplayTask) → length t.writers ≡ n → (writer_of t).due ≡ due.Check → 1 ≤ n
some_context zero t many is = absurd (no_writer_due (ap (λ (w : Writer). w.due) (sym (get_or_past t.writers t.context (new_writer 0) (omega (arith, many)))) ∙ is))
some_context (suc n) t many is = omega arith

pub checks_fit : (trace : Trace) (s : State) → Sound trace s → ChecksFit (length trace.contexts) s.cpus s.tasks
checks_fit trace s sound cpu task rest less is of =
    let holds = sound.holds in
    let there : cpu < trace.cpus = omega (arith, less, holds.cpus.many) in
    let some : 1 ≤ length (cpu_of cpu s).todo = omega (arith, ap (λ (ts : List Todo). length ts) is) in
    let mine = subst (λ (w : Whose). IsWhose trace cpu w) of ((holds.cpus.each cpu there).whose some) in
    let agrees = subst (λ (ts : List Todo). All (Agrees trace s.tasks s.flushers (cpu_of cpu s).turn.whose) ts) is (holds.agreed cpu there).items in
    let first = All-head (Agrees trace s.tasks s.flushers (cpu_of cpu s).turn.whose) (todo.Silent move.Decide) rest agrees in
    let due_now : (writer_of (task_of task s)).due ≡ due.Check = subst (λ (w : Whose). Agrees trace s.tasks s.flushers w (todo.Silent move.Decide)) of first in
    let fits = holds.tasks.each task mine.there in
    (fits.context (some_context (length trace.contexts) (task_of task s) fits.writers due_now), due_now)
