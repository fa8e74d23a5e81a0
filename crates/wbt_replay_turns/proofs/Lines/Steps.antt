-- Where an actor's step comes next it makes just one, or its CPU is stopped, or the run's steps are spent.
use Rattle.std.proofs.Common.{◌≡◌, ℕ, ◌+◌, ◌<◌, Bool, true, false, not, cond, List, [], ◌∷◌, ◌++◌, length, Option, Some, None, refl, sym, ◌∙◌, ap, arith, ⊎_elim}
use Rattle.std.specs.List.{count_by}
use Rattle.std.proofs.lemmas.Bool.{cond-true}
use Rattle.std.proofs.lemmas.List.{get_or-set_same, length-set}
use Rattle.wbt_replay_order.proofs.Common.{after_period, Half, StepEntry, Trace, make_step, make_timer_step, make_timer_move, State, no_cpu, cpu_of, with_cpu, domain_of, is_drained, with_timer, period_to, is_time, periods, Actor, Cpu, Step, TimerSilent, TimerStep, TimerTodo, Todo, is_made_by, may_step, todo_ahead, timer_todo_ahead, cpu_ahead, timer_ahead, ahead_of, chance_by, chance_of, is_full, is_halted, spend, stop, cpu_on, timer_on, go_on, seek_job, Ending, ArePaced}
use Rattle.wbt_replay_moves.specs.declared.state.Actor.TheVariants as who
use Rattle.wbt_replay_moves.specs.declared.todo.TimerSilent.TheVariants as timer_silent
use Rattle.wbt_replay_moves.specs.declared.todo.TimerStep.TheVariants as timer_step
use Rattle.wbt_replay_moves.specs.declared.todo.TimerTodo.TheVariants as timer_todo
use Rattle.wbt_replay_moves.specs.declared.todo.Todo.TheVariants as todo
use Rattle.wbt_replay_order.specs.declared.chance.Ahead.{Ahead}
use Rattle.wbt_replay_order.specs.declared.chance.Ahead.TheVariants as ahead
use Rattle.wbt_replay_order.specs.declared.chance.Chance.TheVariants as chance
use Rattle.wbt_replay_order.proofs.Facts.Actors.{there_by_ahead}
use Rattle.wbt_replay_order.proofs.Facts.Lists.{either}
use Rattle.wbt_replay_order.proofs.Growth.Growing.{both_silent, grew_step, silent_move}
use Rattle.wbt_replay_turns.specs.Lines.{number_of}
use Rattle.wbt_replay_turns.proofs.Lines.Made.{made_step}

-- ---- what comes next of an actor that isn't stopped

running : (c : Cpu) (next : Ahead) → (next ≡ ahead.Nothing → ⊥) → cpu_ahead c ≡ next → todo_ahead c.todo ≡ next
running c next some is = by_stopped c.stopped is
  where
    by_stopped : (b : Bool) → cond b ahead.Nothing (todo_ahead c.todo) ≡ next → todo_ahead c.todo ≡ next
    by_stopped true e = absurd (some (sym e))
    by_stopped false e = e

timer_running : (s : State) (next : Ahead) → (next ≡ ahead.Nothing → ⊥) → timer_ahead s ≡ next → timer_todo_ahead s.timer.todo ≡ next
timer_running s next some is = by_drained (is_drained s) is
  where
    by_drained : (b : Bool) → cond b ahead.Nothing (timer_todo_ahead s.timer.todo) ≡ next → timer_todo_ahead s.timer.todo ≡ next
    by_drained true e = absurd (some (sym e))
    by_drained false e = e

-- ---- a silent move

quiet_cpu : (trace : Trace) (i : ℕ) (todos : List Todo) (s : State) → todo_ahead todos ≡ ahead.Silent → (cpu_on trace i todos s).steps ≡ s.steps
quiet_cpu trace i [] s is = refl
quiet_cpu trace i (todo.Step item ∷ rest) s is = absurd (cc is)
quiet_cpu trace i (todo.Silent item ∷ rest) s is = silent_move trace i item (with_cpu i (record (cpu_of i s) { todo = rest }) s)

quiet_period : (domain k : ℕ) (found : Option Half) (s : State) → (period_to domain k found s).steps ≡ s.steps
quiet_period domain k None s = refl
quiet_period domain k (Some events) s = refl

pub quiet_timer_move : (item : TimerSilent) (s : State) → (make_timer_move item s).steps ≡ s.steps
unfolding make_timer_move
quiet_timer_move (timer_silent.Period domain) s =
    both_silent s (is_time s.timer) (period_to domain (periods s.timer) (after_period (domain_of domain s).events (periods s.timer)) s) s
    (quiet_period domain (periods s.timer) (after_period (domain_of domain s).events (periods s.timer)) s) refl
quiet_timer_move timer_silent.Rest s = refl

quiet_timer : (trace : Trace) (todos : List TimerTodo) (s : State) → timer_todo_ahead todos ≡ ahead.Silent → (timer_on trace todos s).steps ≡ s.steps
quiet_timer trace [] s is = refl
quiet_timer trace (timer_todo.Step item ∷ rest) s is = absurd (cc is)
quiet_timer trace (timer_todo.Silent item ∷ rest) s is = quiet_timer_move item (with_timer (record s.timer { todo = rest }) s)

-- An actor whose silent move comes next makes no step.
pub quiet_on : (trace : Trace) (a : Actor) (s : State) → ahead_of a s ≡ ahead.Silent → (go_on trace a s).steps ≡ s.steps
quiet_on trace (who.Cpu i) s is = quiet_cpu trace i (cpu_of i s).todo s (running (cpu_of i s) ahead.Silent (λ e. cc e) is)
quiet_on trace who.Timer s is = quiet_timer trace s.timer.todo s (timer_running s ahead.Silent (λ e. cc e) is)

-- ---- a step

-- Where the actor's step comes next: it makes it; or the halt line keeps it from it, and it can do nothing from then on; or the run's
-- steps are spent.
pub data Steps (trace : Trace) (a : Actor) (s u : State) : Type 0 where
  makes : (e : StepEntry) → u.steps ≡ s.steps ++ e ∷ [] → e.who ≡ number_of trace a → Steps trace a s u
  halts : u.steps ≡ s.steps → may_step trace a s ≡ false → chance_of a u ≡ chance.Nothing → Steps trace a s u
  spends : u.steps ≡ s.steps → u.spent ≡ true → Steps trace a s u

-- one step, by an actor of this number
pub record OneStep (number : ℕ) (s u : State) : Type 0 where
  pub entry : StepEntry
  pub is : u.steps ≡ s.steps ++ entry ∷ []
  pub by : entry.who ≡ number

-- a stopped CPU can't do anything
stopped_idle : (s : State) (i : ℕ) → (cpu_of i s).stopped ≡ true → chance_of (who.Cpu i) s ≡ chance.Nothing
stopped_idle s i is =
    ap (λ (n : Ahead). chance_by n (who.Cpu i) s) (cond-true (cpu_of i s).stopped ahead.Nothing (todo_ahead (cpu_of i s).todo) is)
    ∙ cond-true (cpu_of i s).stopped chance.Nothing (seek_job (cpu_of i s) s (length (cpu_of i s).jobs) (cpu_of i s).next) is

module _ (trace : Trace) (i : ℕ) (s : State) (there : i < length s.cpus) (paced : ArePaced trace.halt s.steps s.cpus) where
  pub cpu_one : (item : Step) (rest : List Todo)
      → Ending trace (make_step trace i item (with_cpu i (record (cpu_of i s) { todo = rest; made = (cpu_of i s).made + 1 }) s))
      → OneStep i s (make_step trace i item (with_cpu i (record (cpu_of i s) { todo = rest; made = (cpu_of i s).made + 1 }) s))
  cpu_one item rest ending =
      let c : Cpu = record (cpu_of i s) { todo = rest; made = (cpu_of i s).made + 1 } in
      let next : State = with_cpu i c s in
      let u : State = make_step trace i item next in
      let same = made_step trace i item next in
      let here : (cpu_of i next).made ≡ (cpu_of i s).made + 1 = ap (λ (d : Cpu). d.made) (get_or-set_same s.cpus i c no_cpu there) in
      let there_yet : i < length u.cpus = omega (arith, there, same.many, length-set s.cpus i c) in
      let now = (ending.paced i there_yet).made in
      let before = (paced i there).made in
      ⊎_elim (λ none. absurd (omega (arith, now, before, here, same.made i, ap (count_by (is_made_by i)) none)))
      (λ one. record { entry = one.entry; is = one.is; by = one.who })
      (grew_step trace i item next)

  cpu_halts : is_halted trace.halt (cpu_of i s).made ≡ true → Steps trace (who.Cpu i) s (stop i s)
  cpu_halts halted =
      halts refl (ap (λ (n : ℕ). not (is_halted trace.halt n)) (paced i there).made ∙ ap (λ (b : Bool). not b) halted)
      (stopped_idle (stop i s) i (ap (λ (c : Cpu). c.stopped) (get_or-set_same s.cpus i (record (cpu_of i s) { stopped = true }) no_cpu there)))

  cpu_steps : (todos : List Todo) → todo_ahead todos ≡ ahead.Step → Ending trace (cpu_on trace i todos s) → Steps trace (who.Cpu i) s (cpu_on trace i todos s)
  cpu_steps [] is = absurd (cc is)
  cpu_steps (todo.Step item ∷ rest) is =
      either (λ (u : State). Ending trace u → Steps trace (who.Cpu i) s u) (is_halted trace.halt (cpu_of i s).made) (stop i s) _
      (λ halted ending. cpu_halts halted)
      (λ on. either (λ (u : State). Ending trace u → Steps trace (who.Cpu i) s u) (is_full s) (spend s) _
      (λ full ending. spends refl refl) (λ room ending. let one = cpu_one item rest ending in makes one.entry one.is one.by))
  cpu_steps (todo.Silent item ∷ rest) is = absurd (cc is)

pub timer_makes : (trace : Trace) (item : TimerStep) (s : State) → OneStep (length s.cpus) s (make_timer_step trace item s)
unfolding make_timer_step
timer_makes trace (timer_step.Count domain) s = record { entry = _; is = refl; by = refl }
timer_makes trace (timer_step.Peak domain) s = record { entry = _; is = refl; by = refl }
timer_makes trace (timer_step.Unseal domain) s = record { entry = _; is = refl; by = refl }
timer_makes trace (timer_step.Thresh domain) s = record { entry = _; is = refl; by = refl }
timer_makes trace (timer_step.Publish domain) s = record { entry = _; is = refl; by = refl }

timer_steps : (trace : Trace) (s : State) → length s.cpus ≡ trace.cpus → (todos : List TimerTodo) → timer_todo_ahead todos ≡ ahead.Step
    → Steps trace who.Timer s (timer_on trace todos s)
timer_steps trace s many [] is = absurd (cc is)
timer_steps trace s many (timer_todo.Step item ∷ rest) is =
    either (Steps trace who.Timer s) (is_full s) (spend s) _ (λ full. spends refl refl)
    (λ room. let one = timer_makes trace item (with_timer (record s.timer { todo = rest }) s) in makes one.entry one.is (one.by ∙ many))
timer_steps trace s many (timer_todo.Silent item ∷ rest) is = absurd (cc is)

-- An actor whose step comes next makes one, unless it is halted or the steps are spent.
pub steps_on : (trace : Trace) (a : Actor) (s : State) → length s.cpus ≡ trace.cpus → ArePaced trace.halt s.steps s.cpus → ahead_of a s ≡ ahead.Step
    → Ending trace (go_on trace a s) → Steps trace a s (go_on trace a s)
steps_on trace (who.Cpu i) s many paced is ending =
    let there = there_by_ahead s i (λ none. cc (sym is ∙ none)) in
    cpu_steps trace i s there paced (cpu_of i s).todo (running (cpu_of i s) ahead.Step (λ e. cc e) is) ending
steps_on trace who.Timer s many paced is ending = timer_steps trace s many s.timer.todo (timer_running s ahead.Step (λ e. cc e) is)
