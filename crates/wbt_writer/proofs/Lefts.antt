-- Pages left: of writers whose task goes on, what the tasks count is what the CPU's record has.
use Rattle.std.proofs.Common.{◌≡◌, ◌≢◌, ℕ, suc, ◌+◌, ◌<◌, inl, inr, true, false, ◌&&◌, not, eqb, List, [], ◌∷◌, length, map, get_or, refl, sym, ap, ◌∙◌, subst, arith, eqb-true, true≢false}
use Rattle.std.proofs.lemmas.Bool.{cases_eq, cond_both}
use Rattle.std.proofs.Math.ListN.{get_or-map}
use Rattle.std.proofs.lemmas.List.{get_or-set_same, get_or-set_other}
use Rattle.wbt_writer.proofs.Common.{ratelimit_pages, rests_last, Each, Side, TaskState, all_writers, end_task, is_none_due, numbers_from, settle, task_of, Cpu, cpu_after, cpu_step, new_writer, writer_of, Ended, Trace, no_name, no_task, side_of, state_of, task_at}
use Rattle.wbt_journal.specs.Side.{numbers_of, no_task as no_state}
use Rattle.wbt_trace.specs.declared.writers.Writer.{Writer as Name}
use Rattle.wbt_writer.specs.declared.tasks.Tasks.{Tasks}

-- ---- ends of other writers

one_end : (rl cap : ℕ) (cpu : Cpu) (m n : ℕ) → n ≢ m → writer_of (cpu_step rl cap cpu (Ended m)) n ≡ writer_of cpu n
unfolding cpu_step
one_end rl cap cpu m n other = get_or-set_other cpu.writers m n (new_writer cap) (new_writer 0) other

ends_stay : (rl cap : ℕ) (cpu : Cpu) (ns : List ℕ) (n : ℕ) → Each (λ (m : ℕ). n ≢ m) ns → writer_of (cpu_after rl cap cpu (map Ended ns)) n ≡ writer_of cpu n
unfolding cpu_after
ends_stay rl cap cpu [] n others = refl
ends_stay rl cap cpu (m ∷ ns) n others = ends_stay rl cap (cpu_step rl cap cpu (Ended m)) ns n others.1 ∙ one_end rl cap cpu m n others.0

numbers_others : (task k n : ℕ) (ws : List Name) → ((i : ℕ) → i < length ws → n ≡ k + i → (get_or ws i no_name).task ≢ task) → Each (λ (m : ℕ). n ≢ m) (numbers_from task k ws)
numbers_others task k n [] others = tt
numbers_others task k n (w ∷ ws) others =
    let rest : Each (λ (m : ℕ). n ≢ m) (numbers_from task (k + 1) ws) = numbers_others task (k + 1) n ws (λ i less is. others (suc i) (omega arith) (omega arith)) in
    cond_both (eqb w.task task) (k ∷ numbers_from task (k + 1) ws) (numbers_from task (k + 1) ws) (Each (λ (m : ℕ). n ≢ m))
    (λ its. ((λ is. others 0 (omega arith) (omega arith) (eqb-true w.task task its)), rest)) (λ not. rest)

-- ---- the end of a task, and what it does to its side

pub end_keeps : (trace : Trace) (opened task n : ℕ) (s : Side) → (get_or (all_writers trace) n no_name).task ≢ task → writer_of (end_task trace opened task s).cpu n ≡ writer_of s.cpu n
end_keeps trace opened task n s other =
    ends_stay (ratelimit_pages trace opened) trace.cap s.cpu (numbers_of trace task) n
    (numbers_others task 0 n (all_writers trace) (λ i less is. subst (λ (k : ℕ). (get_or (all_writers trace) k no_name).task ≢ task) (let e : n ≡ i = omega arith in e) other))

pub end_ends : (trace : Trace) (opened task : ℕ) (s : Side) → task < length s.tasks → (task_of (end_task trace opened task s) task).has_ended ≡ true
end_ends trace opened task s there = ap (λ (t : TaskState). t.has_ended) (get_or-set_same s.tasks task (record { todo = (task_of s task).todo; has_ended = true }) no_state there)

-- a writer whose task goes on is as before
pub settle_keeps : (trace : Trace) (opened task n : ℕ) (s : Side) → task < length s.tasks
    → ((get_or (all_writers trace) n no_name).task ≡ task → (task_of (settle trace opened task s) task).has_ended ≡ false)
    → writer_of (settle trace opened task s).cpu n ≡ writer_of s.cpu n
settle_keeps trace opened task n s there = cond_both (not (rests_last trace task) && (eqb (task_of s task).todo 0 && is_none_due trace s task)) (end_task trace opened task s) s
    (λ (z : Side). ((get_or (all_writers trace) n no_name).task ≡ task → (task_of z task).has_ended ≡ false) → writer_of z.cpu n ≡ writer_of s.cpu n)
    (λ over goes. elim (cases_eq (get_or (all_writers trace) n no_name).task task) [
      | inl is ↦ absurd (true≢false (sym (end_ends trace opened task s there) ∙ goes is))
      | inr other ↦ end_keeps trace opened task n s other
    ])
    (λ not_over goes. refl)

-- ---- as the tasks show it

pub has_ended_is : (s : Tasks) (task : ℕ) → (task_of (side_of s) task).has_ended ≡ (task_at s task).ended
has_ended_is s task = ap (λ (t : TaskState). t.has_ended) (get_or-map state_of s.tasks.items task no_task)
