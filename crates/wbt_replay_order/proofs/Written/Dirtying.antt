-- A write tells its page, which is then no longer to be written.
use Rattle.std.proofs.Common.{◌≡◌, ◌≢◌, ℕ, zero, suc, ◌+◌, ◌-◌, ◌<◌, ◌≤◌, Bool, false, cond, eqb, List, [], ◌∷◌, ◌++◌, length, get_or, flat_map, refl, sym, ◌∙◌, ap, arith, eq-eqb, ne_eqb, append_assoc}
use Rattle.std.proofs.Math.ListN.{set}
use Rattle.std.proofs.lemmas.Bool.{cond-true, cond-false}
use Rattle.std.proofs.lemmas.List.{append-nil, get_or-set_same, get_or-set_other}
use Rattle.wbt_replay_order.proofs.Common.{numbers, Entry, no_cpu, no_task, without_page, Cpu, ReplayTask, ReplayWork, written_in}
use Rattle.wbt_journal.specs.declared.entry.Entry.TheVariants as entry
use Rattle.wbt_replay_moves.specs.declared.state.ReplayWork.TheVariants as work
use Rattle.wbt_replay_order.proofs.Growth.Quiet.{same_at}
use Rattle.wbt_replay_order.proofs.Written.Same.{pages_of, to_write, told_by, flat_push}

-- what is told with what is still to be written
abbrev pub all_of : (cpu task : ℕ) (cpus : List Cpu) (tasks : List ReplayTask) → List ℕ
all_of cpu task cpus tasks = told_by task (get_or cpus cpu no_cpu) ++ to_write (get_or tasks task no_task)

-- the first page of a write comes before the rest of it
pub pages_before : (inode page pages : ℕ) (works : List ReplayWork) → 1 ≤ pages
    → numbers page pages ++ flat_map pages_of works ≡ page ∷ flat_map pages_of (without_page inode page pages works)
pages_before inode page zero works some = absurd (omega (arith, some))
pages_before inode page (suc zero) works some = refl
pages_before inode page (suc (suc more)) works some =
    ap (λ (l : List ℕ). page ∷ l) (
    let other : eqb (suc (suc more)) 1 ≡ false = ne_eqb (suc (suc more)) 1 (λ e. omega (arith, e)) in
    let rest : suc (suc more) - 1 ≡ suc more = omega arith in
    sym (ap (λ (b : Bool). flat_map pages_of (cond b works (work.Write inode (page + 1) (suc (suc more) - 1) ∷ works))) other
    ∙ ap (λ (n : ℕ). numbers (page + 1) n ++ flat_map pages_of works) rest))

-- The page of one task is told by its CPU, and the task's works are without it.
module _ (cpus : List Cpu) (tasks : List ReplayTask) (cpu task : ℕ) (c : Cpu) (t : ReplayTask) (page : ℕ) (fresh : Bool) (seat : cpu < length cpus) (there : task < length tasks)
    (told : c.entries ≡ (get_or cpus cpu no_cpu).entries ++ entry.Write task page fresh ∷ [])
    (ahead : to_write (get_or tasks task no_task) ≡ page ∷ to_write t) where
  -- of its own pages
  pub mine : all_of cpu task (set cpus cpu c) (set tasks task t) ≡ all_of cpu task cpus tasks
  mine =
      let one : written_in task (entry.Write task page fresh) ≡ page ∷ [] = cond-true (eqb task task) (page ∷ []) [] (eq-eqb task task refl) in
      ap (λ (x : Cpu). told_by task x ++ to_write (get_or (set tasks task t) task no_task)) (get_or-set_same cpus cpu c no_cpu seat)
      ∙ ap (λ (x : ReplayTask). told_by task c ++ to_write x) (get_or-set_same tasks task t no_task there)
      ∙ ap (λ (es : List Entry). flat_map (written_in task) es ++ to_write t) told
      ∙ ap (λ (l : List ℕ). l ++ to_write t) (flat_push task (get_or cpus cpu no_cpu).entries (entry.Write task page fresh))
      ∙ ap (λ (l : List ℕ). (told_by task (get_or cpus cpu no_cpu) ++ l) ++ to_write t) one
      ∙ append_assoc (told_by task (get_or cpus cpu no_cpu)) (page ∷ []) (to_write t)
      ∙ ap (λ (l : List ℕ). told_by task (get_or cpus cpu no_cpu) ++ l) (sym ahead)

  -- and of another task's
  pub others : (j k : ℕ) → k ≢ task → all_of j k (set cpus cpu c) (set tasks task t) ≡ all_of j k cpus tasks
  others j k apart =
      let none : written_in k (entry.Write task page fresh) ≡ [] = cond-false (eqb task k) (page ∷ []) [] (ne_eqb task k (λ e. apart (sym e))) in
      let same : told_by k (get_or (set cpus cpu c) j no_cpu) ≡ told_by k (get_or cpus j no_cpu) = same_at (told_by k) cpus cpu c no_cpu
      (ap (λ (es : List Entry). flat_map (written_in k) es) told ∙ flat_push k (get_or cpus cpu no_cpu).entries (entry.Write task page fresh)
      ∙ ap (λ (l : List ℕ). told_by k (get_or cpus cpu no_cpu) ++ l) none ∙ append-nil (told_by k (get_or cpus cpu no_cpu))) j in
      ap (λ (l : List ℕ). l ++ to_write (get_or (set tasks task t) k no_task)) same
      ∙ ap (λ (x : ReplayTask). told_by k (get_or cpus j no_cpu) ++ to_write x) (get_or-set_other tasks task k t no_task apart)
