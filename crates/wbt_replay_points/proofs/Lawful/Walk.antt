-- A move of a run, from what each item, each turn and each move of the timer does.
use Rattle.std.proofs.Common.{◌≡◌, ℕ, ◌+◌, ◌<◌, true, leb, List, [], ◌∷◌, length, get_or, Option, refl, sym, ap, subst, ⊎_elim, All, arith, ◌∙◌}
use Rattle.std.proofs.lemmas.Bool.{cases_lt}
use Rattle.std.proofs.lemmas.List.{get_or_past}
use Rattle.wbt_replay_order.proofs.Common.{Trace, make_step, make_move, make_timer_step, make_timer_move, begin_turn, State, no_cpu, cpu_of, with_cpu, begin_timer, with_timer, Actor, Cpu, ReplayJob, Stretch, Whose, Silent, Step, TimerSilent, TimerStep, TimerTodo, Todo, after, job_at, is_full, is_halted, spend, stop, cpu_on, timer_on, go_on, begin_job, begin, advance, Facts, IsFlusherOn, IsJobOn, Sound}
use Rattle.wbt_replay_moves.specs.declared.state.Actor.TheVariants as who
use Rattle.wbt_replay_moves.specs.declared.state.ReplayJob.TheVariants as job
use Rattle.wbt_replay_moves.specs.declared.state.Whose.TheVariants as whose
use Rattle.wbt_replay_moves.specs.declared.todo.TimerTodo.TheVariants as timer_todo
use Rattle.wbt_replay_moves.specs.declared.todo.Todo.TheVariants as todo
use Rattle.wbt_replay_order.proofs.Facts.Jobs.{flusher_on}
use Rattle.wbt_replay_order.proofs.Facts.Lists.{either}
use Rattle.wbt_replay_order.proofs.Walk.{clocked, turned, walked}
use Rattle.wbt_replay_points.proofs.Lawful.Same.{log_of, Hidden, still, hide_cpu, GoesOn, same_turn}
use Rattle.wbt_replay_points.proofs.Lawful.Now.{Starts}

-- A flusher that a job of a CPU names is one of the CPU.
pub starts_of : (trace : Trace) → Facts trace → (s : State) → Sound trace s → (i n f : ℕ) → job_at n (cpu_of i s) ≡ job.Flusher f → Starts trace i (whose.Flusher f) s
starts_of trace facts s sound i n f is = ⊎_elim
    (λ less.
    let inside : i < trace.cpus = omega (arith, less, sound.holds.cpus.many) in
    let all : All (IsJobOn trace i) (cpu_of i s).jobs = subst (All (IsJobOn trace i)) (sym (sound.holds.cpus.each i inside).jobs) (facts.jobs i) in
    let on : IsFlusherOn trace i f = flusher_on trace i f n (cpu_of i s).jobs all is in
    (less, on, omega (arith, on.there, sound.holds.flushers.many)))
    (λ past. absurd (no_writer (sym (get_or_past [] n job.Writer (omega arith)) ∙ (sym (ap (λ (c : Cpu). get_or c.jobs n job.Writer) (get_or_past s.cpus i no_cpu past)) ∙ is))))
    (cases_lt i (length s.cpus))
  where
    no_writer : job.Writer ≡ job.Flusher f → ⊥
    no_writer e = cc e

module _ (trace : Trace) (R : State → State → Type 0) (hide : (s u : State) → Hidden s u → R s u) (thens : (s u v : State) → R s u → R u v → R s v) (s0 : State)
    (starts : (i n f : ℕ) → job_at n (cpu_of i s0) ≡ job.Flusher f → Starts trace i (whose.Flusher f) s0)
    (steps : (orders : List Stretch) (rotation : Option Actor) (i : ℕ) → i < length s0.cpus → (ts : List Todo) (x : Step) → (cpu_of i s0).todo ≡ todo.Step x ∷ ts
    → R (turned orders rotation s0) (make_step trace i x (with_cpu i (record (cpu_of i s0) { todo = ts; made = (cpu_of i s0).made + 1 }) (turned orders rotation s0))))
    (moves : (orders : List Stretch) (rotation : Option Actor) (i : ℕ) → i < length s0.cpus → (ts : List Todo) (x : Silent) → (cpu_of i s0).todo ≡ todo.Silent x ∷ ts
    → R (turned orders rotation s0) (make_move trace i x (with_cpu i (record (cpu_of i s0) { todo = ts }) (turned orders rotation s0))))
    (turns : (i : ℕ) (w : Whose) (c : Cpu) (s : State) → log_of c ≡ log_of (cpu_of i s) → c.local ≡ (cpu_of i s).local → GoesOn (cpu_of i s) c → c.todo ≡ [] → (cpu_of i s).todo ≡ []
    → Starts trace i w s → R s (begin_turn trace i w (with_cpu i c s)))
    (times : (orders : List Stretch) (rotation : Option Actor) (ts : List TimerTodo) (x : TimerStep) → s0.timer.todo ≡ timer_todo.Step x ∷ ts
    → R (turned orders rotation s0) (make_timer_step trace x (with_timer (record s0.timer { todo = ts }) (turned orders rotation s0))))
    (passes : (orders : List Stretch) (rotation : Option Actor) (ts : List TimerTodo) (x : TimerSilent) → s0.timer.todo ≡ timer_todo.Silent x ∷ ts
    → R (turned orders rotation s0) (make_timer_move x (with_timer (record s0.timer { todo = ts }) (turned orders rotation s0))))
    (begins : (orders : List Stretch) (rotation : Option Actor) → s0.timer.todo ≡ [] → leb s0.timer.next s0.now ≡ true → R (turned orders rotation s0) (begin_timer (turned orders rotation s0))) where
  abbrev m : (orders : List Stretch) (rotation : Option Actor) → State
  m orders rotation = turned orders rotation s0

  -- the order alone changes
  ordered : (orders : List Stretch) (rotation : Option Actor) → R s0 (m orders rotation)
  ordered orders rotation = hide s0 (m orders rotation) (still s0)

  same : (s : State) → R s s
  same s = hide s s (still s)

  -- ---- a turn goes on

  by_cpu : (orders : List Stretch) (rotation : Option Actor) (i : ℕ) → i < length s0.cpus → (todos : List Todo) → (cpu_of i s0).todo ≡ todos → R (m orders rotation) (cpu_on trace i todos (m orders rotation))
  by_cpu orders rotation i below [] is = same (m orders rotation)
  by_cpu orders rotation i below (todo.Step x ∷ ts) is =
      let s = m orders rotation in
      either (R s) (is_halted trace.halt (cpu_of i s).made) (stop i s) _
      (λ halted. hide s (stop i s) (hide_cpu i (record (cpu_of i s) { stopped = true }) s refl refl (same_turn (cpu_of i s) (record (cpu_of i s) { stopped = true }) refl refl)))
      (λ going. either (R s) (is_full s) (spend s) _ (λ full. hide s (spend s) (still s)) (λ more. steps orders rotation i below ts x is))
  by_cpu orders rotation i below (todo.Silent x ∷ ts) is = moves orders rotation i below ts x is

  by_timer : (orders : List Stretch) (rotation : Option Actor) (todos : List TimerTodo) → s0.timer.todo ≡ todos → R (m orders rotation) (timer_on trace todos (m orders rotation))
  by_timer orders rotation [] is = same (m orders rotation)
  by_timer orders rotation (timer_todo.Step x ∷ ts) is =
      let s = m orders rotation in either (R s) (is_full s) (spend s) _ (λ full. hide s (spend s) (still s)) (λ more. times orders rotation ts x is)
  by_timer orders rotation (timer_todo.Silent x ∷ ts) is = passes orders rotation ts x is

  by_actor : (orders : List Stretch) (rotation : Option Actor) (actor : Actor) → R (m orders rotation) (go_on trace actor (m orders rotation))
  by_actor orders rotation (who.Cpu i) = ⊎_elim
      (λ below. by_cpu orders rotation i below (cpu_of i s0).todo refl)
      (λ past. subst (λ (l : List Todo). R (m orders rotation) (cpu_on trace i l (m orders rotation))) (ap (λ (c : Cpu). c.todo) (sym (get_or_past s0.cpus i no_cpu past))) (same (m orders rotation)))
      (cases_lt i (length s0.cpus))
  by_actor orders rotation who.Timer = by_timer orders rotation s0.timer.todo refl

  -- ---- a turn begins

  by_job : (orders : List Stretch) (rotation : Option Actor) (i n next place : ℕ) (j : ReplayJob) → job_at n (cpu_of i s0) ≡ j → (cpu_of i s0).todo ≡ []
      → R (m orders rotation) (begin_job trace i place j (record (cpu_of i s0) { next = next }) (m orders rotation))
  by_job orders rotation i n next place job.Writer is free =
      let c : Cpu = record (cpu_of i s0) { next = next; next_task = after (length (cpu_of i s0).tasks) place } in
      turns i (whose.Task (get_or (cpu_of i s0).tasks place 0)) c (m orders rotation) refl refl (same_turn (cpu_of i s0) c refl refl) free free tt
  by_job orders rotation i n next place (job.Flusher f) is free =
      let c : Cpu = record (cpu_of i s0) { next = next } in turns i (whose.Flusher f) c (m orders rotation) refl refl (same_turn (cpu_of i s0) c refl refl) free free (starts i n f is)

  -- ---- the order

  pub advance_seen : R s0 (advance trace s0)
  advance_seen =
      walked trace s0 (R s0) (λ orders rotation now. hide s0 (clocked orders rotation now s0) (still s0))
      (λ orders rotation actor some. thens s0 (m orders rotation) (go_on trace actor (m orders rotation)) (ordered orders rotation) (by_actor orders rotation actor))
      (λ orders rotation i n place free found.
      thens s0 (m orders rotation) (begin trace (who.Cpu i) n place (m orders rotation)) (ordered orders rotation)
      (by_job orders rotation i n (after (length (cpu_of i s0).jobs) n) place (job_at n (cpu_of i s0)) refl free.idle))
      (λ orders rotation none time. thens s0 (m orders rotation) (begin_timer (m orders rotation)) (ordered orders rotation) (begins orders rotation none time))
