-- What quiet moves, checks, estimates and the timer's moves keep, each move keeps, and so it holds at each moment.
use Rattle.std.proofs.Common.{◌≡◌, ℕ, ◌+◌, ◌<◌, true, List, [], ◌∷◌, length, get_or, refl, sym, ◌∙◌, ap, subst, arith, ⊎_elim, Option}
use Rattle.std.proofs.lemmas.Bool.{cases_lt}
use Rattle.std.proofs.lemmas.List.{get_or_past, length-set}
use Rattle.wbt_replay_order.proofs.Common.{Trace, decide_for, decide_by, estimate, make_step, make_move, make_timer_step, make_timer_move, begin_turn, State, no_cpu, cpu_of, with_cpu, task_of, begin_timer, with_timer, Actor, Cpu, Domain, ReplayJob, Stretch, ReplayTask, Whose, Writeback, Silent, Step, TimerSilent, TimerStep, TimerTodo, Todo, after, job_at, is_full, is_halted, spend, stop, cpu_on, timer_on, go_on, begin_job, begin, advance, dirty, IsPlainMove}
use Rattle.wbt_replay_moves.specs.declared.state.Actor.TheVariants as who
use Rattle.wbt_replay_moves.specs.declared.state.ReplayJob.TheVariants as job
use Rattle.wbt_replay_moves.specs.declared.state.Whose.TheVariants as whose
use Rattle.wbt_replay_moves.specs.declared.todo.Silent.TheVariants as silent
use Rattle.wbt_replay_moves.specs.declared.todo.Step.TheVariants as step
use Rattle.wbt_replay_moves.specs.declared.todo.TimerTodo.TheVariants as timer_todo
use Rattle.wbt_replay_moves.specs.declared.todo.Todo.TheVariants as todo
use Rattle.wbt_replay_order.proofs.Facts.Lists.{either}
use Rattle.wbt_replay_order.proofs.Growth.Quiet.{HasNames, Quiet, still, same_at, quiet_cpu}
use Rattle.wbt_replay_order.proofs.Written.Same.{told_by, Wrote, unwritten, wrote_cpu}
use Rattle.wbt_replay_order.proofs.Growth.Calm.{calm_turn, calm_step, calm_move, quiet_dirty}
use Rattle.wbt_replay_order.proofs.Walk.{clocked, turned, walked}
use Rattle.wbt_replay_changes.specs.Plain.{IsPlainStep}

-- the CPU's first item is taken
abbrev popped : (cpu : ℕ) (rest : List Todo) (s : State) → State
popped cpu rest s = with_cpu cpu (record (cpu_of cpu s) { todo = rest }) s

-- and for a step
abbrev pub stepping : (cpu : ℕ) (rest : List Todo) (s : State) → State
stepping cpu rest s = with_cpu cpu (record (cpu_of cpu s) { todo = rest; made = (cpu_of cpu s).made + 1 }) s

-- who has an item is there
seat_of : (cpu : ℕ) (item : Todo) (rest : List Todo) (s : State) → (cpu_of cpu s).todo ≡ item ∷ rest → cpu < length s.cpus
seat_of cpu item rest s is = ⊎_elim (λ less. less)
    (λ past. absurd (omega (arith, ap (λ (ts : List Todo). length ts) (sym is ∙ ap (λ (c : Cpu). c.todo) (get_or_past s.cpus cpu no_cpu past)))))
    (cases_lt cpu (length s.cpus))

module _ (trace : Trace) (P : State → Type 0) (frame : (s u : State) → Quiet s u → Wrote s u → P s → P u)
    (Can : (now : ℕ) (domains : List Domain) (cpus : List Cpu) (tasks : List ReplayTask) (contexts : List Writeback) → Type 0)
    (writes : (cpu : ℕ) (rest : List Todo) (s : State) → cpu < length s.cpus → (cpu_of cpu s).todo ≡ todo.Step step.Dirty ∷ rest
    → Can s.now s.domains s.cpus s.tasks s.contexts → P s → P (dirty trace cpu (stepping cpu rest s)))
    (decides : (cpu task : ℕ) (rest : List Todo) (s : State) → cpu < length s.cpus → (cpu_of cpu s).todo ≡ todo.Silent silent.Decide ∷ rest
    → (cpu_of cpu s).turn.whose ≡ whose.Task task → Can s.now s.domains s.cpus s.tasks s.contexts → P s
    → P (decide_for trace cpu task (task_of task s).context (with_cpu cpu (record (cpu_of cpu s) { todo = rest }) s)))
    (estimates : (cpu context : ℕ) (s : State) → cpu < length s.cpus → P s → P (estimate trace cpu context s))
    (times : (item : TimerStep) (rest : List TimerTodo) (s : State) → s.timer.todo ≡ timer_todo.Step item ∷ rest → P s
    → P (make_timer_step trace item (with_timer (record s.timer { todo = rest }) s)))
    (passes : (item : TimerSilent) (rest : List TimerTodo) (s : State) → s.timer.todo ≡ timer_todo.Silent item ∷ rest → P s
    → P (make_timer_move item (with_timer (record s.timer { todo = rest }) s)))
    (begins : (s : State) → P s → P (begin_timer s)) where
  -- ---- an actor's move

  on_cpu : (cpu : ℕ) (c : Cpu) (s : State) → c.checks ≡ (cpu_of cpu s).checks → c.estimates ≡ (cpu_of cpu s).estimates → (HasNames (cpu_of cpu s) → HasNames c)
      → ((t : ℕ) → told_by t c ≡ told_by t (cpu_of cpu s)) → P s → P (with_cpu cpu c s)
  on_cpu cpu c s checks ests names told h = frame s (with_cpu cpu c s) (quiet_cpu cpu c s checks ests names) (wrote_cpu cpu c s told) h

  -- by a plain step, and a plain silent move
  stepped : (cpu : ℕ) (item : Step) (rest : List Todo) (s : State) → IsPlainStep item → P s → P (make_step trace cpu item (stepping cpu rest s))
  stepped cpu item rest s plain h =
      let u = stepping cpu rest s in
      let calm = calm_step trace cpu item u plain in
      frame u (make_step trace cpu item u) calm.0 calm.1
      (on_cpu cpu (record (cpu_of cpu s) { todo = rest; made = (cpu_of cpu s).made + 1 }) s refl refl (λ n. n) (λ t. refl) h)

  passed : (cpu : ℕ) (item : Silent) (rest : List Todo) (s : State) → IsPlainMove item → P s → P (make_move trace cpu item (popped cpu rest s))
  passed cpu item rest s plain h =
      let u = popped cpu rest s in
      let calm = calm_move trace cpu item u plain in
      frame u (make_move trace cpu item u) calm.0 calm.1 (on_cpu cpu (record (cpu_of cpu s) { todo = rest }) s refl refl (λ n. n) (λ t. refl) h)

  by_decide : (cpu : ℕ) (rest : List Todo) (w : Whose) (s : State) → cpu < length s.cpus → (cpu_of cpu s).todo ≡ todo.Silent silent.Decide ∷ rest
      → (cpu_of cpu s).turn.whose ≡ w → Can s.now s.domains s.cpus s.tasks s.contexts → P s → P (decide_by trace cpu w (popped cpu rest s))
  by_decide cpu rest (whose.Task task) s there is of can h = decides cpu task rest s there is of can h
  by_decide cpu rest (whose.Flusher flusher) s there is of can h = on_cpu cpu (record (cpu_of cpu s) { todo = rest }) s refl refl (λ n. n) (λ t. refl) h

  by_move : (cpu : ℕ) (item : Silent) (rest : List Todo) (s : State) → cpu < length s.cpus → (cpu_of cpu s).todo ≡ todo.Silent item ∷ rest
      → Can s.now s.domains s.cpus s.tasks s.contexts → P s → P (make_move trace cpu item (popped cpu rest s))
  unfolding make_move
  by_move cpu silent.Decide rest s there is can h =
      let u = popped cpu rest s in
      subst (λ (w : Whose). P (decide_by trace cpu w u)) (sym (same_at (λ (c : Cpu). c.turn.whose) s.cpus cpu (record (cpu_of cpu s) { todo = rest }) no_cpu refl cpu))
      (by_decide cpu rest (cpu_of cpu s).turn.whose s there is refl can h)
  by_move cpu (silent.Estimate context) rest s there is can h =
      estimates cpu context (popped cpu rest s) (omega (arith, there, length-set s.cpus cpu (record (cpu_of cpu s) { todo = rest })))
      (on_cpu cpu (record (cpu_of cpu s) { todo = rest }) s refl refl (λ n. n) (λ t. refl) h)
  by_move cpu other rest s there is can h = passed cpu other rest s tt h

  by_item : (cpu : ℕ) (item : Step) (rest : List Todo) (s : State) → cpu < length s.cpus → (cpu_of cpu s).todo ≡ todo.Step item ∷ rest
      → Can s.now s.domains s.cpus s.tasks s.contexts → P s → P (make_step trace cpu item (stepping cpu rest s))
  unfolding make_step
  by_item cpu step.Dirty rest s there is can h = writes cpu rest s there is can h
  by_item cpu other rest s there is can h = stepped cpu other rest s tt h

  by_cpu : (cpu : ℕ) (todos : List Todo) (s : State) → (cpu_of cpu s).todo ≡ todos → Can s.now s.domains s.cpus s.tasks s.contexts → P s → P (cpu_on trace cpu todos s)
  by_cpu cpu [] s is can h = h
  by_cpu cpu (todo.Step item ∷ rest) s is can h =
      either P (is_halted trace.halt (cpu_of cpu s).made) (stop cpu s) _
      (λ halted.
      let c : Cpu = record (cpu_of cpu s) { stopped = true } in
      frame s (stop cpu s) (quiet_cpu cpu c s refl refl (λ n. n)) (wrote_cpu cpu c s (λ t. refl)) h)
      (λ going. either P (is_full s) (spend s) (make_step trace cpu item (stepping cpu rest s))
      (λ full. frame s (spend s) (still s) (unwritten s) h)
      (λ more. by_item cpu item rest s (seat_of cpu (todo.Step item) rest s is) is can h))
  by_cpu cpu (todo.Silent item ∷ rest) s is can h = by_move cpu item rest s (seat_of cpu (todo.Silent item) rest s is) is can h

  by_timer : (todos : List TimerTodo) (s : State) → s.timer.todo ≡ todos → P s → P (timer_on trace todos s)
  by_timer [] s is h = h
  by_timer (timer_todo.Step item ∷ rest) s is h =
      either P (is_full s) (spend s) _ (λ full. frame s (spend s) (still s) (unwritten s) h) (λ more. times item rest s is h)
  by_timer (timer_todo.Silent item ∷ rest) s is h = passes item rest s is h

  by_actor : (actor : Actor) (s : State) → Can s.now s.domains s.cpus s.tasks s.contexts → P s → P (go_on trace actor s)
  by_actor (who.Cpu i) s can h = by_cpu i (cpu_of i s).todo s refl can h
  by_actor who.Timer s can h = by_timer s.timer.todo s refl h

  -- ---- the beginning of a turn

  begins_turn : (cpu : ℕ) (w : Whose) (c : Cpu) (s : State) → c.checks ≡ (cpu_of cpu s).checks → c.estimates ≡ (cpu_of cpu s).estimates → (HasNames (cpu_of cpu s) → HasNames c)
      → ((t : ℕ) → told_by t c ≡ told_by t (cpu_of cpu s)) → P s
      → P (begin_turn trace cpu w (with_cpu cpu c s))
  begins_turn cpu w c s checks ests names told h =
      let u = with_cpu cpu c s in
      let calm = calm_turn trace cpu w u in
      frame u (begin_turn trace cpu w u) calm.0 calm.1 (on_cpu cpu c s checks ests names told h)

  begins_job : (cpu place : ℕ) (j : ReplayJob) (c : Cpu) (s : State) → c.checks ≡ (cpu_of cpu s).checks → c.estimates ≡ (cpu_of cpu s).estimates → (HasNames (cpu_of cpu s) → HasNames c)
      → ((t : ℕ) → told_by t c ≡ told_by t (cpu_of cpu s)) → P s
      → P (begin_job trace cpu place j c s)
  begins_job cpu place job.Writer c s checks ests names told h =
      begins_turn cpu (whose.Task (get_or c.tasks place 0)) (record c { next_task = after (length c.tasks) place }) s checks ests names told h
  begins_job cpu place (job.Flusher flusher) c s checks ests names told h = begins_turn cpu (whose.Flusher flusher) c s checks ests names told h

  by_begin : (actor : Actor) (job place : ℕ) (s : State) → P s → P (begin trace actor job place s)
  by_begin (who.Cpu i) job place s h =
      begins_job i place (job_at job (cpu_of i s)) (record (cpu_of i s) { next = after (length (cpu_of i s).jobs) job }) s refl refl (λ n. n) (λ t. refl) h
  by_begin who.Timer job place s h = h

  -- ---- the order

  pub advance_all : (s : State) → Can s.now s.domains s.cpus s.tasks s.contexts → P s → P (advance trace s)
  advance_all s can h =
      walked trace s P (λ orders rotation now. frame s (clocked orders rotation now s) (still s) (unwritten s) h) (λ orders rotation actor some. by_actor actor (turned orders rotation s) can (turn orders rotation))
      (λ orders rotation i job place free found. by_begin (who.Cpu i) job place (turned orders rotation s) (turn orders rotation))
      (λ orders rotation none time. begins (turned orders rotation s) (turn orders rotation))
    where
      turn : (orders : List Stretch) (rotation : Option Actor) → P (turned orders rotation s)
      turn orders rotation = frame s (turned orders rotation s) (still s) (unwritten s) h

-- likewise where a write is no other move
module _ (trace : Trace) (P : State → Type 0) (frame : (s u : State) → Quiet s u → P s → P u)
    (Can : (now : ℕ) (domains : List Domain) (cpus : List Cpu) (tasks : List ReplayTask) (contexts : List Writeback) → Type 0)
    (decides : (cpu task : ℕ) (rest : List Todo) (s : State) → cpu < length s.cpus → (cpu_of cpu s).todo ≡ todo.Silent silent.Decide ∷ rest
    → (cpu_of cpu s).turn.whose ≡ whose.Task task → Can s.now s.domains s.cpus s.tasks s.contexts → P s
    → P (decide_for trace cpu task (task_of task s).context (with_cpu cpu (record (cpu_of cpu s) { todo = rest }) s)))
    (estimates : (cpu context : ℕ) (s : State) → cpu < length s.cpus → P s → P (estimate trace cpu context s))
    (times : (item : TimerStep) (rest : List TimerTodo) (s : State) → s.timer.todo ≡ timer_todo.Step item ∷ rest → P s
    → P (make_timer_step trace item (with_timer (record s.timer { todo = rest }) s)))
    (passes : (item : TimerSilent) (rest : List TimerTodo) (s : State) → s.timer.todo ≡ timer_todo.Silent item ∷ rest → P s
    → P (make_timer_move item (with_timer (record s.timer { todo = rest }) s)))
    (begins : (s : State) → P s → P (begin_timer s)) where
  plain_writes : (cpu : ℕ) (rest : List Todo) (s : State) → cpu < length s.cpus → (cpu_of cpu s).todo ≡ todo.Step step.Dirty ∷ rest
      → Can s.now s.domains s.cpus s.tasks s.contexts → P s → P (dirty trace cpu (stepping cpu rest s))
  plain_writes cpu rest s there is can h =
      let u = stepping cpu rest s in
      frame u (dirty trace cpu u) (quiet_dirty trace cpu u)
      (frame s u (quiet_cpu cpu (record (cpu_of cpu s) { todo = rest; made = (cpu_of cpu s).made + 1 }) s refl refl (λ n. n)) h)

  pub advance_keeps : (s : State) → Can s.now s.domains s.cpus s.tasks s.contexts → P s → P (advance trace s)
  advance_keeps = advance_all trace P (λ s u quiet wrote h. frame s u quiet h) Can plain_writes decides estimates times passes begins
