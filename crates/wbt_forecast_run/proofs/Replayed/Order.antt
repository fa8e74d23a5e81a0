-- A run that isn't spent makes the same moves where more steps may be made.
use Rattle.std.proofs.Common.{◌≡◌, ℕ, zero, suc, ◌+◌, ◌≤◌, Bool, true, false, true≢false, leb, cond, List, [], ◌∷◌, length, get_or, Option, Some, None, refl, ◌∙◌, ap, arith}
use Rattle.std.proofs.lemmas.Bool.{cond-false}
use Rattle.std.proofs.lemmas.Bool.Decides.{nat_tests}
use Rattle.wbt_replay_order.proofs.Common.{Trace, make_step, make_timer_step, State, cpu_of, with_cpu, with_timer, Actor, Cpu, ReplayJob, Stretch, TimerTodo, Todo, after, ahead_of, is_nothing, turn_at, job_at, is_full, is_halted, spend, stop, cpu_on, timer_on, go_on, begin_job, begin, with_orders, begin_or_drop, follow, next_moment, at_moment, actor_at, place_after, chance_by, chance_of, take, take_turn, task_turn, seek_job, seek_turn, next_turn, finish_turn, rotate_from, advance_by, advance}
use Rattle.wbt_replay_moves.specs.declared.state.Actor.TheVariants as actor
use Rattle.wbt_replay_moves.specs.declared.state.ReplayJob.TheVariants as job
use Rattle.wbt_replay_moves.specs.declared.state.Stretch.TheVariants as stretch
use Rattle.wbt_replay_moves.specs.declared.state.Whose.TheVariants as whose
use Rattle.wbt_replay_moves.specs.declared.todo.TimerTodo.TheVariants as timer_todo
use Rattle.wbt_replay_moves.specs.declared.todo.Todo.TheVariants as todo
use Rattle.wbt_replay_order.specs.declared.chance.Ahead.{Ahead}
use Rattle.wbt_replay_order.specs.declared.chance.Ahead.TheVariants as ahead
use Rattle.wbt_replay_order.specs.declared.chance.Chance.{Chance}
use Rattle.wbt_replay_order.specs.declared.chance.Chance.TheVariants as chance
use Rattle.wbt_forecast_run.proofs.Replayed.Most.{with_most, turns_alike, steps_alike, moves_alike, timer_turns_alike, timer_steps_alike, timer_moves_alike}

-- ---- what a move makes of both

-- Unless the run is spent, the second state is the first one with so many steps.
abbrev pub Alike : (m : ℕ) (u v : State) → Type 0
Alike m u v = u.spent ≡ false → v ≡ with_most m u

-- by one of two
both : (m : ℕ) (b : Bool) (u1 u2 v1 v2 : State) → Alike m u1 v1 → Alike m u2 v2 → Alike m (cond b u1 u2) (cond b v1 v2)
both m true u1 u2 v1 v2 one two = one
both m false u1 u2 v1 v2 one two = two

chosen : (m : ℕ) (b : Bool) (u1 u2 v1 v2 : State) → Alike m u1 v1 → Alike m u2 v2
    → Alike m (elim b [ true ↦ u1 | false ↦ u2 ]) (elim b [ true ↦ v1 | false ↦ v2 ])
chosen m true u1 u2 v1 v2 one two = one
chosen m false u1 u2 v1 v2 one two = two

not_full : (most more steps : ℕ) → most ≤ more → leb most steps ≡ false → leb more steps ≡ false
not_full most more steps low none = grind (arith, nat_tests)

module _ (m : ℕ) (s : State) (low : s.most ≤ m) where
  -- where no step is left the run is spent, and where one is, one is left of more
  unless_full : (u v : State) → Alike m u v → Alike m (cond (is_full s) (spend s) u) (cond (is_full (with_most m s)) (spend (with_most m s)) v)
  unless_full u v alike = by_test (leb s.most (length s.steps)) refl
    where
      by_test : (b : Bool) → leb s.most (length s.steps) ≡ b → Alike m (cond b (spend s) u) (cond (is_full (with_most m s)) (spend (with_most m s)) v)
      by_test true is spent = absurd (true≢false spent)
      by_test false is spent =
          cond-false (leb m (length s.steps)) (spend (with_most m s)) v (not_full s.most m (length s.steps) low is) ∙ alike spent

module _ (trace : Trace) (m : ℕ) where
  abbrev M : (s : State) → State
  M s = with_most m s

  -- ---- an actor's move

  by_cpu : (i : ℕ) (todos : List Todo) (s : State) → s.most ≤ m → Alike m (cpu_on trace i todos s) (cpu_on trace i todos (M s))
  by_cpu i [] s low = λ spent. refl
  by_cpu i (todo.Step item ∷ rest) s low =
      let x : State = with_cpu i (record (cpu_of i s) { todo = rest; made = (cpu_of i s).made + 1 }) s in
      both m (is_halted trace.halt (cpu_of i s).made) (stop i s) _ (stop i (M s)) _ (λ spent. refl)
      (unless_full m s low (make_step trace i item x) (make_step trace i item (M x)) (λ spent. steps_alike trace m i item x))
  by_cpu i (todo.Silent item ∷ rest) s low = λ spent. moves_alike trace m i item (with_cpu i (record (cpu_of i s) { todo = rest }) s)

  by_timer : (todos : List TimerTodo) (s : State) → s.most ≤ m → Alike m (timer_on trace todos s) (timer_on trace todos (M s))
  by_timer [] s low = λ spent. refl
  by_timer (timer_todo.Step item ∷ rest) s low =
      let x : State = with_timer (record s.timer { todo = rest }) s in
      unless_full m s low (make_timer_step trace item x) (make_timer_step trace item (M x)) (λ spent. timer_steps_alike trace m item x)
  by_timer (timer_todo.Silent item ∷ rest) s low = λ spent. timer_moves_alike trace m item (with_timer (record s.timer { todo = rest }) s)

  goes : (a : Actor) (s : State) → s.most ≤ m → Alike m (go_on trace a s) (go_on trace a (M s))
  goes (actor.Cpu i) s low = by_cpu i (cpu_of i s).todo s low
  goes actor.Timer s low = by_timer s.timer.todo s low

  -- ---- a turn begins

  job_alike : (i place : ℕ) (j : ReplayJob) (c : Cpu) (s : State) → begin_job trace i place j c (M s) ≡ M (begin_job trace i place j c s)
  job_alike i place job.Writer c s =
      turns_alike trace m i (whose.Task (get_or c.tasks place 0)) (with_cpu i (record c { next_task = after (length c.tasks) place }) s)
  job_alike i place (job.Flusher f) c s = turns_alike trace m i (whose.Flusher f) (with_cpu i c s)

  begin_alike : (a : Actor) (n place : ℕ) (s : State) → begin trace a n place (M s) ≡ M (begin trace a n place s)
  begin_alike (actor.Cpu i) n place s =
      job_alike i place (job_at n (cpu_of i s)) (record (cpu_of i s) { next = after (length (cpu_of i s).jobs) n }) s
  begin_alike actor.Timer n place s = refl

  -- ---- what an actor can do

  turn_asked : (a : Actor) (s : State) → turn_at a (M s) ≡ turn_at a s
  unfolding seek_job task_turn
  turn_asked (actor.Cpu i) s = refl
  turn_asked actor.Timer s = refl

  ahead_asked : (a : Actor) (s : State) → ahead_of a (M s) ≡ ahead_of a s
  ahead_asked (actor.Cpu i) s = refl
  ahead_asked actor.Timer s = refl

  chance_asked : (a : Actor) (s : State) → chance_of a (M s) ≡ chance_of a s
  chance_asked a s = ap (λ (n : Ahead). chance_by n a (M s)) (ahead_asked a s) ∙ by_ahead (ahead_of a s)
    where
      by_ahead : (n : Ahead) → chance_by n a (M s) ≡ chance_by n a s
      by_ahead ahead.Step = refl
      by_ahead ahead.Silent = refl
      by_ahead ahead.Nothing = turn_asked a s

  -- ---- the order lines

  by_found : (a : Actor) (found : Chance) (more : List Stretch) (s : State) → s.most ≤ m
      → Alike m (begin_or_drop trace a found more s) (begin_or_drop trace a found more (M s))
  by_found a chance.Nothing more s low spent = refl
  by_found a chance.GoesOn more s low spent = goes a s low spent
  by_found a (chance.Begins n place) more s low spent = begin_alike a n place s
  by_found a chance.TimerBegins more s low spent = timer_turns_alike trace m s

  by_line : (a : Actor) (steps : ℕ) (next : Ahead) (more : List Stretch) (s : State) → s.most ≤ m
      → Alike m (follow trace a steps next more s) (follow trace a steps next more (M s))
  by_line a steps ahead.Silent more s low spent = goes a s low spent
  by_line a zero ahead.Step more s low spent = refl
  by_line a (suc steps) ahead.Step more s low spent = goes a (with_orders (stretch.Steps a steps ∷ more) s) low spent
  by_line a zero ahead.Nothing more s low spent = refl
  by_line a (suc steps) ahead.Nothing more s low spent =
      ap (λ (found : Chance). begin_or_drop trace a found more (M s)) (turn_asked a s) ∙ by_found a (turn_at a s) more s low spent

  -- ---- the rotation

  by_moment : (found : Option ℕ) (s : State) → at_moment found (M s) ≡ M (at_moment found s)
  by_moment None s = refl
  by_moment (Some moment) s = refl

  by_take : (a : Actor) (found : Chance) (s : State) → s.most ≤ m → Alike m (take trace a found s) (take trace a found (M s))
  by_take a chance.Nothing s low spent = refl
  by_take a chance.GoesOn s low spent = goes a s low spent
  by_take a (chance.Begins n place) s low spent = begin_alike a n place s
  by_take a chance.TimerBegins s low spent = timer_turns_alike trace m s

  by_turn : (a : Actor) (s : State) → s.most ≤ m → Alike m (take_turn trace a s) (take_turn trace a (M s))
  by_turn a s low spent =
      let now : State = record s { rotation = Some a } in
      ap (λ (found : Chance). take trace a found (M now)) (chance_asked a s) ∙ by_take a (chance_of a s) now low spent

  by_seek : (tries place : ℕ) (s : State) → s.most ≤ m → Alike m (seek_turn trace tries place s) (seek_turn trace tries place (M s))
  unfolding seek_turn
  by_seek zero place s low = λ spent. by_moment (next_moment s) s
  by_seek (suc tries) place s low =
      let a = actor_at place s in
      let next = after (length s.cpus + 1) place in
      λ spent.
      ap (λ (b : Bool). elim b as (λ _. State) [ true ↦ seek_turn trace tries next (M s) | false ↦ take_turn trace a (M s) ]) (ap is_nothing (chance_asked a s))
      ∙ chosen m (is_nothing (chance_of a s)) (seek_turn trace tries next s) (take_turn trace a s) (seek_turn trace tries next (M s)) (take_turn trace a (M s))
      (by_seek tries next s low) (by_turn a s low) spent

  by_next : (s : State) → s.most ≤ m → Alike m (next_turn trace s) (next_turn trace (M s))
  by_next s low = by_place s.rotation (by_seek (length s.cpus + 1) (place_after s.rotation s) s low)
    where
      by_place : (turn : Option Actor) → Alike m (seek_turn trace (length s.cpus + 1) (place_after turn s) s) (seek_turn trace (length s.cpus + 1) (place_after turn s) (M s))
          → Alike m (seek_turn trace (length s.cpus + 1) (place_after turn s) s) (seek_turn trace (length s.cpus + 1) (place_after turn (M s)) (M s))
      by_place None h = h
      by_place (Some (actor.Cpu i)) h = h
      by_place (Some actor.Timer) h = h

  by_finish : (a : Actor) (next : Ahead) (s : State) → s.most ≤ m → Alike m (finish_turn trace a next s) (finish_turn trace a next (M s))
  by_finish a ahead.Step s low = goes a s low
  by_finish a ahead.Silent s low = goes a s low
  by_finish a ahead.Nothing s low = by_next s low

  by_rotation : (turn : Option Actor) (s : State) → s.most ≤ m → Alike m (rotate_from trace turn s) (rotate_from trace turn (M s))
  by_rotation None s low spent = by_next s low spent
  by_rotation (Some a) s low spent =
      ap (λ (n : Ahead). finish_turn trace a n (M s)) (ahead_asked a s) ∙ by_finish a (ahead_of a s) s low spent

  -- ---- the run

  by_orders : (orders : List Stretch) (s : State) → s.most ≤ m → Alike m (advance_by trace orders s) (advance_by trace orders (M s))
  by_orders [] s low spent = by_rotation s.rotation s low spent
  by_orders (stretch.Tick ticks ∷ more) s low spent = refl
  by_orders (stretch.Steps a steps ∷ more) s low spent =
      ap (λ (n : Ahead). follow trace a steps n more (M s)) (ahead_asked a s) ∙ by_line a steps (ahead_of a s) more s low spent

  -- A move of a run that isn't spent is the same where more steps may be made.
  pub advance_alike : (s : State) → s.most ≤ m → Alike m (advance trace s) (advance trace (M s))
  advance_alike s low = by_orders s.orders s low
