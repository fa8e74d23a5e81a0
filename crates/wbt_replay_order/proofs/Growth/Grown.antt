-- The run was once just past each of its steps, since a move makes one step at most.
use Rattle.std.proofs.Common.{◌≡◌, ℕ, zero, suc, ◌+◌, ◌<◌, inl, List, [], ◌∷◌, length, take, get_or, refl, sym, ◌∙◌, ap, subst, arith, Option, Some, None, ⊎_elim, length-append, pos, inr}
use Rattle.std.proofs.lemmas.Bool.{cases_Bool, cases_lt}
use Rattle.std.proofs.lemmas.List.{take-append-le, take_all}
use Rattle.wbt_replay_order.proofs.Common.{Trace, after_period, Half, StepEntry, make_step, make_timer_step, make_timer_move, begin_turn, begin_for, State, cpu_of, with_cpu, domain_of, with_timer, period_to, is_time, periods, Actor, Cpu, ReplayJob, Whose, TimerSilent, TimerStep, TimerTodo, Todo, opening, after, job_at, is_full, is_halted, is_ended, spend, stop, cpu_on, timer_on, go_on, begin_job, begin, advance, most_moves, state_at, last_state, turn_keeps}
use Rattle.wbt_grant.specs.declared.who.StepKind.TheVariants as kind
use Rattle.wbt_replay_moves.specs.declared.state.Actor.TheVariants as who
use Rattle.wbt_replay_moves.specs.declared.state.ReplayJob.TheVariants as job
use Rattle.wbt_replay_moves.specs.declared.state.Whose.TheVariants as whose
use Rattle.wbt_replay_moves.specs.declared.todo.TimerSilent.TheVariants as timer_silent
use Rattle.wbt_replay_moves.specs.declared.todo.TimerStep.TheVariants as timer_step
use Rattle.wbt_replay_moves.specs.declared.todo.TimerTodo.TheVariants as timer_todo
use Rattle.wbt_replay_moves.specs.declared.todo.Todo.TheVariants as todo
use Rattle.wbt_replay_order.specs.Claims.Bound.{WasPast}
use Rattle.wbt_replay_order.specs.Definition.Order as order
use Rattle.wbt_replay_order.proofs.Facts.Lists.{either}
use Rattle.wbt_replay_order.proofs.Growth.Growing.{Grew, Steps, Silently, one_step, both_silent, grew_step, silent_change, then_silent, silent_move}
use Rattle.wbt_replay_changes.proofs.Keeping.{for_keeps}
use Rattle.wbt_replay_order.proofs.Growth.Runs.{run_last, run_stays}
use Rattle.wbt_replay_order.proofs.Walk.{turned, walked}

-- ---- the beginning of a turn

pub silent_for : (trace : Trace) (cpu : ℕ) (w : Whose) (s : State) → Silently s (begin_for trace cpu w s)
silent_for trace = for_keeps trace Silently (λ s. refl) then_silent (silent_change trace)

silent_turn : (trace : Trace) (cpu : ℕ) (w : Whose) (s : State) → Silently s (begin_turn trace cpu w s)
silent_turn trace = turn_keeps trace Silently (λ s. refl) then_silent (silent_change trace)

silent_job : (trace : Trace) (cpu place : ℕ) (j : ReplayJob) (c : Cpu) (s : State) → Silently s (begin_job trace cpu place j c s)
silent_job trace cpu place job.Writer c s =
    silent_turn trace cpu (whose.Task (get_or c.tasks place 0)) (with_cpu cpu (record c { next_task = after (length c.tasks) place }) s)
silent_job trace cpu place (job.Flusher flusher) c s = silent_turn trace cpu (whose.Flusher flusher) (with_cpu cpu c s)

silent_begin : (trace : Trace) (actor : Actor) (job place : ℕ) (s : State) → Silently s (begin trace actor job place s)
silent_begin trace (who.Cpu i) job place s =
    silent_job trace i place (job_at job (cpu_of i s)) (record (cpu_of i s) { next = after (length (cpu_of i s).jobs) job }) s
silent_begin trace who.Timer job place s = refl

-- ---- an actor's move

-- the timer's first item is taken
abbrev popped : (rest : List TimerTodo) (s : State) → State
popped rest s = with_timer (record s.timer { todo = rest }) s

grew_timer_step : (trace : Trace) (item : TimerStep) (rest : List TimerTodo) (s : State)
    → Grew (length s.cpus) s.steps (make_timer_step trace item (popped rest s)).steps (timer_todo.Step item ∷ rest)
unfolding make_timer_step
grew_timer_step trace (timer_step.Count domain) rest s = one_step (length s.cpus) s.steps _ (timer_todo.Step (timer_step.Count domain) ∷ rest) refl refl
grew_timer_step trace (timer_step.Peak domain) rest s = inr (record { entry = raise domain s; is = refl; who = refl; domain = inr refl })
  where
    raise : (domain : ℕ) (s : State) → StepEntry
    raise domain s = record { who = length s.cpus; kind = kind.Peak; context = 0; change = pos 0; domain = domain; peak = s.timer.limits.hard }
grew_timer_step trace (timer_step.Unseal domain) rest s = one_step (length s.cpus) s.steps _ (timer_todo.Step (timer_step.Unseal domain) ∷ rest) refl refl
grew_timer_step trace (timer_step.Thresh domain) rest s = one_step (length s.cpus) s.steps _ (timer_todo.Step (timer_step.Thresh domain) ∷ rest) refl refl
grew_timer_step trace (timer_step.Publish domain) rest s = one_step (length s.cpus) s.steps _ (timer_todo.Step (timer_step.Publish domain) ∷ rest) refl refl

silent_period : (domain k : ℕ) (found : Option Half) (s : State) → Silently s (period_to domain k found s)
silent_period domain k None s = refl
silent_period domain k (Some events) s = refl

silent_timer_move : (item : TimerSilent) (s : State) → Silently s (make_timer_move item s)
unfolding make_timer_move
silent_timer_move (timer_silent.Period domain) s =
    both_silent s (is_time s.timer) (period_to domain (periods s.timer) (after_period (domain_of domain s).events (periods s.timer)) s) s
    (silent_period domain (periods s.timer) (after_period (domain_of domain s).events (periods s.timer)) s) refl
silent_timer_move timer_silent.Rest s = refl

grew_timer : (trace : Trace) (todos : List TimerTodo) (s : State) → Grew (length s.cpus) s.steps (timer_on trace todos s).steps todos
grew_timer trace [] s = inl refl
grew_timer trace (timer_todo.Step item ∷ rest) s =
    either (λ (u : State). Grew (length s.cpus) s.steps u.steps (timer_todo.Step item ∷ rest)) (is_full s) (spend s) _ (λ full. inl refl) (λ more. grew_timer_step trace item rest s)
grew_timer trace (timer_todo.Silent item ∷ rest) s = inl (silent_timer_move item (popped rest s))

grew_cpu : (trace : Trace) (cpu : ℕ) (todos : List Todo) (s : State) → Steps cpu s (cpu_on trace cpu todos s)
grew_cpu trace cpu [] s = inl refl
grew_cpu trace cpu (todo.Step item ∷ rest) s =
    let next = with_cpu cpu (record (cpu_of cpu s) { todo = rest; made = (cpu_of cpu s).made + 1 }) s in
    either (Steps cpu s) (is_halted trace.halt (cpu_of cpu s).made) (stop cpu s) _ (λ halted. inl refl)
    (λ going. either (Steps cpu s) (is_full s) (spend s) (make_step trace cpu item next) (λ full. inl refl) (λ more. grew_step trace cpu item next))
grew_cpu trace cpu (todo.Silent item ∷ rest) s = inl (silent_move trace cpu item (with_cpu cpu (record (cpu_of cpu s) { todo = rest }) s))

-- ---- the order

-- some actor made a step, whose number among those who make steps is this, or nobody
abbrev Anyone : (s u : State) → Type 0
Anyone s u = (number : ℕ) × Steps number s u

grew_actor : (trace : Trace) (actor : Actor) (s : State) → Anyone s (go_on trace actor s)
grew_actor trace (who.Cpu i) s = (i, grew_cpu trace i (cpu_of i s).todo s)
grew_actor trace who.Timer s = (length s.cpus, grew_timer trace s.timer.todo s)

pub advance_grows : (trace : Trace) (s : State) → (number : ℕ) × Grew number s.steps (advance trace s).steps s.timer.todo
advance_grows trace s =
    walked trace s (Anyone s) (λ orders rotation now. (0, inl refl)) (λ orders rotation actor some. grew_actor trace actor (turned orders rotation s))
    (λ orders rotation i job place free found. (0, inl (silent_begin trace (who.Cpu i) job place (turned orders rotation s)))) (λ orders rotation none time. (0, inl refl))

-- ---- the moments just past each step

past_grown : (trace : Trace) (actor : ℕ) (before now : List StepEntry) (todos : List TimerTodo) (moves : ℕ) → (state_at trace moves).steps ≡ now → Grew actor before now todos
    → ((k : ℕ) → k < length before → (m : ℕ) × ((state_at trace m).steps ≡ take (k + 1) before))
    → (k : ℕ) → k < length now → (m : ℕ) × ((state_at trace m).steps ≡ take (k + 1) now)
past_grown trace actor before now todos moves here more past = ⊎_elim
    (λ same. subst (λ (l : List StepEntry). (k : ℕ) → k < length l → (m : ℕ) × ((state_at trace m).steps ≡ take (k + 1) l)) (sym same) past)
    (λ one. λ k less. ⊎_elim
    (λ inside.
    let h = past k inside in
    (h.0, h.1 ∙ sym (take-append-le (k + 1) before (one.entry ∷ []) (omega (arith, inside))) ∙ ap (take (k + 1)) (sym one.is)))
    (λ last. (moves, here ∙ sym (take_all (k + 1) now (omega (arith, last, ap (λ (l : List StepEntry). length l) one.is, length-append before (one.entry ∷ []))))))
    (cases_lt k (length before)))
    more

pub no_steps : (trace : Trace) → (state_at trace 0).steps ≡ []
unfolding order.run opening
no_steps trace = refl

past_none : (trace : Trace) (k : ℕ) → k < length (state_at trace 0).steps → (n : ℕ) × ((state_at trace n).steps ≡ take (k + 1) (state_at trace 0).steps)
past_none trace k less = absurd (omega (arith, less, ap (λ (l : List StepEntry). length l) (no_steps trace)))

past : (trace : Trace) (m k : ℕ) → k < length (state_at trace m).steps → (n : ℕ) × ((state_at trace n).steps ≡ take (k + 1) (state_at trace m).steps)
past trace zero = past_none trace
past trace (suc m) = ⊎_elim
    (λ over.
    let same : (state_at trace (suc m)).steps ≡ (state_at trace m).steps = ap (λ (s : State). s.steps) (run_stays trace m (suc m) (opening trace) (omega arith) over) in
    past_grown trace 0 (state_at trace m).steps (state_at trace (suc m)).steps (state_at trace m).timer.todo (suc m) refl (inl same) (past trace m))
    (λ going.
    let same : state_at trace (suc m) ≡ advance trace (state_at trace m) = run_last trace m (suc m) (opening trace) (omega arith) going in
    let more = advance_grows trace (state_at trace m) in
    past_grown trace more.0 (state_at trace m).steps (state_at trace (suc m)).steps (state_at trace m).timer.todo (suc m) refl
    (subst (λ (s : State). Grew more.0 (state_at trace m).steps s.steps (state_at trace m).timer.todo) (sym same) more.1)
    (past trace m))
    (cases_Bool (is_ended (state_at trace m)))

pub was_past : (trace : Trace) (k : ℕ) → k < length (last_state trace).steps → WasPast trace k
was_past trace k less = past trace most_moves k less
