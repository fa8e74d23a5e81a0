-- A flusher's turn changes its flusher: no item that is still to be done says otherwise.
use Rattle.std.proofs.Common.{◌≡◌, ℕ, zero, suc, ◌+◌, ◌<◌, ◌≤◌, Bool, not, max, List, [], ◌∷◌, length, get_or, All, refl, sym, ◌∙◌, ap, subst, arith}
use Rattle.std.proofs.Math.ListN.{set}
use Rattle.std.proofs.lemmas.List.{get_or-set_same}
use Rattle.wbt_replay_order.proofs.Common.{Trace, State, cpu_of, task_of, flusher_of, no_flusher, no_task, Flusher, ReplayTask, Whose, Todo, Facts, IsFlusherOn, IsTaskOn, credit_in, until_of, rests_of, IsFlusher, IsTask, AreDirtied, flown_of, dirtied_of, is_running, AreFrom, rank_of, Agrees, TaskAgrees, FlusherAgrees}
use Rattle.wbt_replay_moves.specs.declared.state.Whose.TheVariants as whose
use Rattle.wbt_replay_moves.specs.declared.todo.Silent.TheVariants as silent
use Rattle.wbt_replay_moves.specs.declared.todo.Step.TheVariants as step
use Rattle.wbt_replay_moves.specs.declared.todo.Todo.TheVariants as todo
use Rattle.wbt_replay_ranges.proofs.Sound.FlusherFrame.{flusher_going}
use Rattle.wbt_replay_ranges.proofs.Sound.Frames.{task_going, task_frame}
use Rattle.wbt_replay_ranges.proofs.Sound.Going.{Going}
use Rattle.wbt_replay_order.proofs.Lists.Numbered.{one_if, sum_set}
use Rattle.wbt_replay_ranges.proofs.Sound.Own.{Free}
use Rattle.wbt_replay_ranges.proofs.Sound.Working.{works}

-- ---- items that don't hang on what the flusher or the task is at

steady : (trace : Trace) (f x : Flusher) (t : Todo) → 2 ≤ rank_of t → FlusherAgrees trace f t → FlusherAgrees trace x t
steady trace f x (todo.Step step.Dirty) l h = absurd h
steady trace f x (todo.Step (step.Add counter change)) l h = tt
steady trace f x (todo.Step (step.Fold counter)) l h = tt
steady trace f x (todo.Step (step.Clear counter)) l h = tt
steady trace f x (todo.Step (step.Mark inode)) l h = tt
steady trace f x (todo.Step (step.First domain)) l h = tt
steady trace f x (todo.Step (step.Middle domain)) l h = tt
steady trace f x (todo.Step (step.Limits domain)) l h = tt
steady trace f x (todo.Step (step.Count counter)) l h = tt
steady trace f x (todo.Step step.Unmark) l h = absurd (omega (arith, l))
steady trace f x (todo.Step step.Look) l h = absurd (omega (arith, l))
steady trace f x (todo.Step (step.Claim word)) l h = absurd (omega (arith, l))
steady trace f x (todo.Step step.Complete) l h = absurd (omega (arith, l))
steady trace f x (todo.Silent silent.Decide) l h = absurd h
steady trace f x (todo.Silent silent.End) l h = absurd h
steady trace f x (todo.Silent (silent.Estimate context)) l h = absurd (omega (arith, l))
steady trace f x (todo.Silent (silent.Weigh context)) l h = absurd (omega (arith, l))
steady trace f x (todo.Silent silent.Test) l h = absurd (omega (arith, l))
steady trace f x (todo.Silent silent.Close) l h = absurd (omega (arith, l))
steady trace f x (todo.Silent silent.HandOver) l h = absurd (omega (arith, l))
steady trace f x (todo.Silent silent.Land) l h = absurd (omega (arith, l))

-- Of a task the end alone says something: it hasn't ended.
steady_task : (y x : ReplayTask) (t : Todo) → (x.ended ≡ y.ended) → 2 ≤ rank_of t → TaskAgrees y t → TaskAgrees x t
steady_task y x (todo.Step step.Dirty) e l h = absurd (omega (arith, l))
steady_task y x (todo.Step (step.Add counter change)) e l h = tt
steady_task y x (todo.Step (step.Fold counter)) e l h = tt
steady_task y x (todo.Step (step.Clear counter)) e l h = tt
steady_task y x (todo.Step (step.Mark inode)) e l h = tt
steady_task y x (todo.Step (step.First domain)) e l h = tt
steady_task y x (todo.Step (step.Middle domain)) e l h = tt
steady_task y x (todo.Step (step.Limits domain)) e l h = tt
steady_task y x (todo.Step (step.Count counter)) e l h = tt
steady_task y x (todo.Step step.Unmark) e l h = absurd h
steady_task y x (todo.Step step.Look) e l h = absurd h
steady_task y x (todo.Step (step.Claim word)) e l h = absurd h
steady_task y x (todo.Step step.Complete) e l h = absurd h
steady_task y x (todo.Silent silent.Decide) e l h = absurd (omega (arith, l))
steady_task y x (todo.Silent silent.End) e l h = e ∙ h
steady_task y x (todo.Silent (silent.Estimate context)) e l h = absurd h
steady_task y x (todo.Silent (silent.Weigh context)) e l h = absurd h
steady_task y x (todo.Silent silent.Test) e l h = absurd h
steady_task y x (todo.Silent silent.Close) e l h = absurd h
steady_task y x (todo.Silent silent.HandOver) e l h = absurd h
steady_task y x (todo.Silent silent.Land) e l h = absurd h

-- Behind the end there is nothing that says something of the task.
free_task : (y x : ReplayTask) (t : Todo) → 3 ≤ rank_of t → TaskAgrees y t → TaskAgrees x t
free_task y x (todo.Step step.Dirty) l h = absurd (omega (arith, l))
free_task y x (todo.Step (step.Add counter change)) l h = tt
free_task y x (todo.Step (step.Fold counter)) l h = tt
free_task y x (todo.Step (step.Clear counter)) l h = tt
free_task y x (todo.Step (step.Mark inode)) l h = tt
free_task y x (todo.Step (step.First domain)) l h = tt
free_task y x (todo.Step (step.Middle domain)) l h = tt
free_task y x (todo.Step (step.Limits domain)) l h = tt
free_task y x (todo.Step (step.Count counter)) l h = tt
free_task y x (todo.Step step.Unmark) l h = absurd h
free_task y x (todo.Step step.Look) l h = absurd h
free_task y x (todo.Step (step.Claim word)) l h = absurd h
free_task y x (todo.Step step.Complete) l h = absurd h
free_task y x (todo.Silent silent.Decide) l h = absurd (omega (arith, l))
free_task y x (todo.Silent silent.End) l h = absurd (omega (arith, l))
free_task y x (todo.Silent (silent.Estimate context)) l h = absurd h
free_task y x (todo.Silent (silent.Weigh context)) l h = absurd h
free_task y x (todo.Silent silent.Test) l h = absurd h
free_task y x (todo.Silent silent.Close) l h = absurd h
free_task y x (todo.Silent silent.HandOver) l h = absurd h
free_task y x (todo.Silent silent.Land) l h = absurd h

pub from_at : (n : ℕ) (todos : List Todo) (k : ℕ) (d : Todo) → AreFrom n todos → k < length todos → n ≤ rank_of (get_or todos k d)
from_at n [] k d h l = absurd (omega (arith, l))
from_at n (t ∷ todos) zero d h l = h.0
from_at n (t ∷ todos) (suc k) d h l = from_at n todos k d h.1 (omega (arith, l))

-- The next silent move isn't one that puts a moment later.
pub credit_none : (todos : List Todo) → AreFrom 2 todos → credit_in todos ≡ 0
credit_none [] h = refl
credit_none (todo.Step item ∷ more) h = refl
credit_none (todo.Silent silent.Decide ∷ more) h = absurd (omega (arith, h.0))
credit_none (todo.Silent silent.End ∷ more) h = refl
credit_none (todo.Silent (silent.Estimate context) ∷ more) h = absurd (omega (arith, h.0))
credit_none (todo.Silent (silent.Weigh context) ∷ more) h = absurd (omega (arith, h.0))
credit_none (todo.Silent silent.Test ∷ more) h = absurd (omega (arith, h.0))
credit_none (todo.Silent silent.Close ∷ more) h = absurd (omega (arith, h.0))
credit_none (todo.Silent silent.HandOver ∷ more) h = absurd (omega (arith, h.0))
credit_none (todo.Silent silent.Land ∷ more) h = absurd (omega (arith, h.0))

module _ (trace : Trace) (facts : Facts trace) (i : ℕ) (less : i < trace.cpus) where
  -- ---- the flusher whose turn it is

  pub record Flown (f : ℕ) (x : Flusher) (e t w : ℕ) (s : State) : Type 0 where
    pub going : Going trace i e t (record s { flushers = set s.flushers f x; working = w })
    pub free : Free trace i 2 (record s { flushers = set s.flushers f x; working = w })
    pub is : flusher_of f (record s { flushers = set s.flushers f x; working = w }) ≡ x

  pub turn_flusher : (f : ℕ) (x : Flusher) (w e e' t t' d : ℕ) (s : State) → IsFlusherOn trace i f → (cpu_of i s).turn.whose ≡ whose.Flusher f → Going trace i e t s → Free trace i 2 s
      → IsFlusher trace f x → flown_of x + e' ≤ flown_of (flusher_of f s) + e → e' ≤ e
      → until_of x.phase ≤ max (until_of (flusher_of f s).phase) (s.now + d) → t' + d ≤ t
      → w + one_if (works (flusher_of f s)) ≡ s.working + one_if (works x)
      → Flown f x e' t' w s
  turn_flusher f x w e e' t t' d s on turn g free is flown fewer until ticks work = record {
    going = flusher_going trace facts i less f x w e e' t t' d s on turn g is agree flown fewer until ticks work;
    free = record {
      whose = free.whose;
      fits = record {
        fit = free.fits.fit;
        order = free.fits.order;
        from = free.fits.from;
        agree = subst (λ (v : Whose). All (Agrees trace s.tasks (set s.flushers f x) v) (cpu_of i s).todo) (sym turn)
            (λ k (y : Todo) (m : k < length (cpu_of i s).todo). subst (λ (z : Flusher). FlusherAgrees trace z (get_or (cpu_of i s).todo k y)) (sym same) (agree k y m));
        others = free.fits.others;
      };
      room = free.room;
    };
    is = same;
  }
    where
      same : get_or (set s.flushers f x) f no_flusher ≡ x
      same = get_or-set_same s.flushers f x no_flusher (omega (arith, on.there, g.holds.flushers.many))

      before : All (FlusherAgrees trace (flusher_of f s)) (cpu_of i s).todo
      before = subst (λ (v : Whose). All (Agrees trace s.tasks s.flushers v) (cpu_of i s).todo) turn free.fits.agree

      agree : All (FlusherAgrees trace x) (cpu_of i s).todo
      agree k y m = steady trace (flusher_of f s) x (get_or (cpu_of i s).todo k y) (from_at 2 (cpu_of i s).todo k y free.fits.from m) (before k y m)

  -- ---- the task whose turn it is, which doesn't end

  pub record Worked (k : ℕ) (x : ReplayTask) (e t : ℕ) (s : State) : Type 0 where
    pub going : Going trace i e t (record s { tasks = set s.tasks k x })
    pub free : Free trace i 2 (record s { tasks = set s.tasks k x })
    pub is : task_of k (record s { tasks = set s.tasks k x }) ≡ x

  -- with the sum of dirtied pages after it
  pub turn_task_sum : (k : ℕ) (x : ReplayTask) (e e' t t' d : ℕ) (s : State) → IsTaskOn trace i k → (cpu_of i s).turn.whose ≡ whose.Task k → Going trace i e t s → Free trace i 2 s
      → IsTask trace (length s.steps) k x → x.ended ≡ (task_of k s).ended → AreDirtied (length s.steps) e' (set s.tasks k x) s.cpus → e' ≤ e
      → x.rest ≤ max (task_of k s).rest (s.now + d) → rests_of x + t' + d ≤ rests_of (task_of k s) + t
      → Worked k x e' t' s
  turn_task_sum k x e e' t t' d s on turn g free is ends dirtied fewer rest rests = record {
    going = task_frame trace facts i less k x s.running e e' t t' d s on turn g is agree dirtied fewer rest rests
        (ap (λ (b : Bool). s.running + one_if (not b)) (sym ends));
    free = record {
      whose = free.whose;
      fits = record {
        fit = free.fits.fit;
        order = free.fits.order;
        from = free.fits.from;
        agree = subst (λ (v : Whose). All (Agrees trace (set s.tasks k x) s.flushers v) (cpu_of i s).todo) (sym turn)
            (λ n (y : Todo) (m : n < length (cpu_of i s).todo). subst (λ (z : ReplayTask). TaskAgrees z (get_or (cpu_of i s).todo n y)) (sym same) (agree n y m));
        others = free.fits.others;
      };
      room = free.room;
    };
    is = same;
  }
    where
      same : get_or (set s.tasks k x) k no_task ≡ x
      same = get_or-set_same s.tasks k x no_task (omega (arith, on.there, g.holds.tasks.many))

      before : All (TaskAgrees (task_of k s)) (cpu_of i s).todo
      before = subst (λ (v : Whose). All (Agrees trace s.tasks s.flushers v) (cpu_of i s).todo) turn free.fits.agree

      agree : All (TaskAgrees x) (cpu_of i s).todo
      agree n y m = steady_task (task_of k s) x (get_or (cpu_of i s).todo n y) ends (from_at 2 (cpu_of i s).todo n y free.fits.from m) (before n y m)

  pub turn_task : (k : ℕ) (x : ReplayTask) (e e' t t' d : ℕ) (s : State) → IsTaskOn trace i k → (cpu_of i s).turn.whose ≡ whose.Task k → Going trace i e t s → Free trace i 2 s
      → IsTask trace (length s.steps) k x → x.ended ≡ (task_of k s).ended → dirtied_of x + e' ≤ dirtied_of (task_of k s) + e → e' ≤ e
      → x.rest ≤ max (task_of k s).rest (s.now + d) → rests_of x + t' + d ≤ rests_of (task_of k s) + t
      → Worked k x e' t' s
  turn_task k x e e' t t' d s on turn g free is ends dirtied fewer rest rests =
      let sum = sum_set dirtied_of s.tasks k x no_task (omega (arith, g.holds.tasks.many, on.there)) in
      turn_task_sum k x e e' t t' d s on turn g free is ends (omega (arith, g.holds.dirtied, sum, dirtied)) fewer rest rests

  -- ---- the task ends

  pub task_ends : (k : ℕ) (x : ReplayTask) (r e e' t : ℕ) (s : State) → IsTaskOn trace i k → (cpu_of i s).turn.whose ≡ whose.Task k → Going trace i e t s → AreFrom 3 (cpu_of i s).todo
      → All (Agrees trace s.tasks s.flushers (cpu_of i s).turn.whose) (cpu_of i s).todo
      → IsTask trace (length s.steps) k x → dirtied_of x + e' ≤ dirtied_of (task_of k s) + e → e' ≤ e → x.rest ≡ (task_of k s).rest → rests_of x ≤ rests_of (task_of k s)
      → r + one_if (is_running (task_of k s)) ≡ s.running + one_if (is_running x)
      → Going trace i e' t (record s { tasks = set s.tasks k x; running = r })
  task_ends k x r e e' t s on turn g from all is dirtied fewer rest rests runs =
      task_going trace facts i less k x r e e' t t 0 s on turn g is agree dirtied fewer (omega (arith, rest)) (omega (arith, rests)) runs
    where
      before : All (TaskAgrees (task_of k s)) (cpu_of i s).todo
      before = subst (λ (v : Whose). All (Agrees trace s.tasks s.flushers v) (cpu_of i s).todo) turn all

      agree : All (TaskAgrees x) (cpu_of i s).todo
      agree n y m = free_task (task_of k s) x (get_or (cpu_of i s).todo n y) (from_at 3 (cpu_of i s).todo n y from m) (before n y m)
