-- What a search for a turn finds, and who begins one has nothing left of the one before.
use Rattle.std.proofs.Common.{◌≡◌, ℕ, zero, suc, ◌+◌, ◌<◌, ◌≤◌, Bool, true, false, cond, not, ◌&&◌, leb, ltb, List, [], ◌∷◌, length, get_or, refl, sym, ◌∙◌, ap, subst, arith}
use Rattle.std.proofs.lemmas.Bool.{and_parts, not-true, cond-false}
use Rattle.std.proofs.lemmas.Bool.Decides.{nat_tests}
use Rattle.wbt_replay_order.proofs.Common.{State, cpu_of, task_of, flusher_of, is_drained, Actor, Cpu, ReplayJob, TimerTodo, Todo, after, ahead_of, todo_ahead, timer_todo_ahead, is_task_ready, is_phase_ready, task_turn, job_turn, job_at, is_nothing, seek_job, cpu_turn, turn_at}
use Rattle.wbt_replay_moves.specs.declared.state.Actor.TheVariants as who
use Rattle.wbt_replay_moves.specs.declared.state.ReplayJob.TheVariants as job
use Rattle.wbt_replay_moves.specs.declared.todo.TimerTodo.TheVariants as timer_todo
use Rattle.wbt_replay_moves.specs.declared.todo.Todo.TheVariants as todo
use Rattle.wbt_replay_order.specs.declared.chance.Ahead.TheVariants as ahead
use Rattle.wbt_replay_order.specs.declared.chance.Chance.{Chance}
use Rattle.wbt_replay_order.specs.declared.chance.Chance.TheVariants as chance
use Rattle.wbt_replay_order.proofs.Facts.Actors.{there_by_turn}
use Rattle.wbt_replay_order.proofs.Facts.Lists.{either}

-- the number after one is one of those that go round
pub after_below : (count n : ℕ) → 1 ≤ count → after count n < count
after_below count n some = either (λ k. k < count) (ltb (n + 1) count) (n + 1) 0 (λ is. grind (arith, nat_tests)) (λ is. some)

-- ---- a CPU's turn

-- A turn that a CPU can begin is of one of its jobs, where its next one is one: of a task of it that is ready, or of a flusher that is.
pub record IsTurn (c : Cpu) (s : State) (n place : ℕ) : Type 0 where
  pub among : (1 ≤ length c.jobs → c.next < length c.jobs) → n < length c.jobs
  pub task : job_at n c ≡ job.Writer → (1 ≤ length c.tasks → c.next_task < length c.tasks) → place < length c.tasks
  pub runs : job_at n c ≡ job.Writer → is_task_ready s.now (task_of (get_or c.tasks place 0) s) ≡ true
  pub flusher : (f : ℕ) → job_at n c ≡ job.Flusher f → is_phase_ready (flusher_of f s).phase (is_drained s) s.now ≡ true

-- what a search of a CPU's finds
abbrev pub IsFound : (c : Cpu) (s : State) (found : Chance) → Type 0
IsFound c s chance.Nothing = Unit {0}
IsFound c s chance.GoesOn = ⊥
IsFound c s (chance.Begins n place) = IsTurn c s n place
IsFound c s chance.TimerBegins = ⊥

module _ (c : Cpu) (s : State) where
  task_found : (n tries place : ℕ) → job_at n c ≡ job.Writer → ((1 ≤ length c.jobs → c.next < length c.jobs) → n < length c.jobs)
      → ((1 ≤ length c.tasks → c.next_task < length c.tasks) → 1 ≤ tries → place < length c.tasks) → IsFound c s (task_turn n c.tasks s tries place)
  unfolding task_turn
  task_found n zero place is there below = tt
  task_found n (suc tries) place is there below =
      by_ready (is_task_ready s.now (task_of (get_or c.tasks place 0) s)) refl
      (task_found n tries (after (length c.tasks) place) is there (λ next some. let here = below next (omega arith) in after_below (length c.tasks) place (omega (arith, here))))
    where
      by_ready : (b : Bool) → is_task_ready s.now (task_of (get_or c.tasks place 0) s) ≡ b → IsFound c s (task_turn n c.tasks s tries (after (length c.tasks) place))
          → IsFound c s (elim b as (λ _. Chance) [ true ↦ chance.Begins n place | false ↦ task_turn n c.tasks s tries (after (length c.tasks) place) ])
      by_ready true ready more = record {
        among = there;
        task = λ same next. below next (omega arith);
        runs = λ same. ready;
        flusher = λ f other. let no_flusher : job.Flusher f ≡ job.Writer = sym other ∙ is in absurd (cc no_flusher);
      }
      by_ready false ready more = more

  job_found : (n : ℕ) (j : ReplayJob) → job_at n c ≡ j → ((1 ≤ length c.jobs → c.next < length c.jobs) → n < length c.jobs) → IsFound c s (job_turn c s n j)
  job_found n job.Writer is there = task_found n (length c.tasks) c.next_task is there (λ next some. next some)
  job_found n (job.Flusher f) is there =
      either (IsFound c s) (is_phase_ready (flusher_of f s).phase (is_drained s) s.now) _ _
      (λ ready. record {
        among = there;
        task = λ other next. absurd (no_writer other);
        runs = λ other. absurd (no_writer other);
        flusher = λ g other.
            let same : job.Flusher f ≡ job.Flusher g = sym is ∙ other in
            let number : f ≡ g = cc same in
            subst (λ (k : ℕ). is_phase_ready (flusher_of k s).phase (is_drained s) s.now ≡ true) number ready;
      })
      (λ other. tt)
    where
      no_writer : job_at n c ≡ job.Writer → ⊥
      no_writer other = let writer : job.Flusher f ≡ job.Writer = sym is ∙ other in cc writer

  seek_found : (tries n : ℕ) → ((1 ≤ length c.jobs → c.next < length c.jobs) → 1 ≤ tries → n < length c.jobs) → IsFound c s (seek_job c s tries n)
  unfolding seek_job
  seek_found zero n below = tt
  seek_found (suc tries) n below =
      by_first (is_nothing (job_turn c s n (job_at n c)))
      (seek_found tries (after (length c.jobs) n) (λ next some. let here = below next (omega arith) in after_below (length c.jobs) n (omega (arith, here))))
    where
      by_first : (b : Bool) → IsFound c s (seek_job c s tries (after (length c.jobs) n))
          → IsFound c s (elim b as (λ _. Chance) [ true ↦ seek_job c s tries (after (length c.jobs) n) | false ↦ job_turn c s n (job_at n c) ])
      by_first true more = more
      by_first false more = job_found n (job_at n c) refl (λ next. below next (omega arith))

  pub turn_found : IsFound c s (cpu_turn c s)
  turn_found = either (IsFound c s) c.stopped _ _ (λ is. tt) (λ is. seek_found (length c.jobs) c.next (λ next some. next some))

-- ---- who can't

-- a search for a turn finds none that goes on,
pub never_goes : (a : Actor) (s : State) → turn_at a s ≡ chance.GoesOn → ⊥
never_goes (who.Cpu i) s = λ found. subst (IsFound (cpu_of i s) s) found (turn_found (cpu_of i s) s)
never_goes who.Timer s = by_test (not (is_drained s) && leb s.timer.next s.now)
  where
    by_test : (b : Bool) → cond b chance.TimerBegins chance.Nothing ≡ chance.GoesOn → ⊥
    by_test true found = cc found
    by_test false found = cc found

-- and of a CPU not the timer's
pub never_times : (i : ℕ) (s : State) → turn_at (who.Cpu i) s ≡ chance.TimerBegins → ⊥
never_times i s found = subst (IsFound (cpu_of i s) s) found (turn_found (cpu_of i s) s)

-- ---- who can

pub no_item : (ts : List Todo) → todo_ahead ts ≡ ahead.Nothing → ts ≡ []
no_item [] is = refl
no_item (todo.Step item ∷ ts) is = absurd (cc is)
no_item (todo.Silent item ∷ ts) is = absurd (cc is)

pub no_timer_item : (ts : List TimerTodo) → timer_todo_ahead ts ≡ ahead.Nothing → ts ≡ []
no_timer_item [] is = refl
no_timer_item (timer_todo.Step item ∷ ts) is = absurd (cc is)
no_timer_item (timer_todo.Silent item ∷ ts) is = absurd (cc is)

-- a CPU that is there, isn't stopped, and has nothing to do
pub record IsFree (s : State) (i : ℕ) : Type 0 where
  pub there : i < length s.cpus
  pub live : (cpu_of i s).stopped ≡ false
  pub idle : (cpu_of i s).todo ≡ []

-- so is one that can begin a turn
pub free_cpu : (s : State) (i n place : ℕ) → ahead_of (who.Cpu i) s ≡ ahead.Nothing → turn_at (who.Cpu i) s ≡ chance.Begins n place → IsFree s i
free_cpu s i n place none found = by_stopped (cpu_of i s).stopped refl found
  where
    by_stopped : (b : Bool) → (cpu_of i s).stopped ≡ b
        → cond b chance.Nothing (seek_job (cpu_of i s) s (length (cpu_of i s).jobs) (cpu_of i s).next) ≡ chance.Begins n place → IsFree s i
    by_stopped true is e = absurd (cc e)
    by_stopped false is e = record {
      there = there_by_turn s i n place found;
      live = is;
      idle = no_item (cpu_of i s).todo (sym (cond-false (cpu_of i s).stopped ahead.Nothing (todo_ahead (cpu_of i s).todo) is) ∙ none);
    }

-- The timer has nothing to do where it can begin one, and its wait is over.
pub free_timer : (s : State) → ahead_of who.Timer s ≡ ahead.Nothing → turn_at who.Timer s ≡ chance.TimerBegins → (s.timer.todo ≡ []) × (leb s.timer.next s.now ≡ true)
free_timer s none found = by_test (not (is_drained s) && leb s.timer.next s.now) refl found
  where
    by_test : (b : Bool) → (not (is_drained s) && leb s.timer.next s.now) ≡ b → cond b chance.TimerBegins chance.Nothing ≡ chance.TimerBegins
        → (s.timer.todo ≡ []) × (leb s.timer.next s.now ≡ true)
    by_test true is e =
        let parts = and_parts (not (is_drained s)) (leb s.timer.next s.now) is in
        let running = not-true (is_drained s) parts.0 in
        (no_timer_item s.timer.todo (sym (cond-false (is_drained s) ahead.Nothing (timer_todo_ahead s.timer.todo) running) ∙ none), parts.1)
    by_test false is e = absurd (cc e)
