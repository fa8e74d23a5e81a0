-- Without order lines the turn goes to the first actor, in the order of the rotation, that can do something.
use Rattle.std.proofs.Common.{◌≡◌, ◌⊎◌, inl, inr, ℕ, ◌+◌, List, [], ◌∷◌, ◌++◌, length, Option, Some, None, ⊎_elim, refl, sym, ◌∙◌, ap, subst, arith}
use Rattle.std.proofs.lemmas.Bool.{cases_lt}
use Rattle.wbt_replay_order.proofs.Common.{StepEntry, IsLawful, Trace, make_step, State, cpu_of, with_cpu, with_timer, Actor, Stretch, TimerTodo, Todo, HasEnded, opening, ahead_of, chance_of, is_full, is_halted, is_nothing, spend, stop, cpu_on, timer_on, go_on, take, next_moment, at_moment, place_after, take_turn, next_turn, finish_turn, rotate_from, advance_by, advance, state_at, Facts, StaysInRange, Sound}
use Rattle.wbt_replay_moves.specs.declared.state.Actor.TheVariants as who
use Rattle.wbt_replay_moves.specs.declared.todo.TimerTodo.TheVariants as timer_todo
use Rattle.wbt_replay_moves.specs.declared.todo.Todo.TheVariants as todo
use Rattle.wbt_replay_order.specs.declared.chance.Ahead.{Ahead}
use Rattle.wbt_replay_order.specs.declared.chance.Ahead.TheVariants as ahead
use Rattle.wbt_replay_order.specs.declared.chance.Chance.{Chance}
use Rattle.wbt_replay_order.specs.declared.chance.Chance.TheVariants as chance
use Rattle.wbt_replay_order.proofs.Facts.Facts.{facts}
use Rattle.wbt_replay_order.proofs.Facts.Lists.{either}
use Rattle.wbt_replay_order.proofs.Growth.Growing.{grew_step, silent_move}
use Rattle.wbt_replay_order.proofs.Growth.Runs.{run_last}
use Rattle.wbt_replay_turns.specs.Able.{NobodyCan}
use Rattle.wbt_replay_turns.specs.Lines.{number_of}
use Rattle.wbt_replay_turns.specs.Rotation.{actor_after, IsFirst, IsUnderWay, Moves, MovesTurn, TurnsAreFair}
use Rattle.wbt_replay_turns.proofs.Able.{cannot_idle, idle_cannot, in_turn, turn_in}
use Rattle.wbt_replay_turns.proofs.Clock.{idle_move}
use Rattle.wbt_replay_turns.proofs.Kept.Actors.{kept_on, kept_take}
use Rattle.wbt_replay_turns.proofs.Kept.Items.{Order}
use Rattle.wbt_replay_turns.proofs.Lines.Moves.{begins_silently}
use Rattle.wbt_replay_turns.proofs.Lines.Steps.{quiet_timer_move, timer_makes}
use Rattle.wbt_replay_turns.proofs.Runs.{never_stuck}
use Rattle.wbt_replay_turns.proofs.Seeking.{Sought, finds, finds_none, sought, no_chance}

-- ---- steps of an actor

-- no step, or one of the actor's
abbrev pub Grown : (trace : Trace) (a : Actor) (s u : State) → Type 0
Grown trace a s u = (u.steps ≡ s.steps) ⊎ ((e : StepEntry) × (u.steps ≡ s.steps ++ e ∷ []) × (e.who ≡ number_of trace a))

pub grown_cpu : (trace : Trace) (i : ℕ) (todos : List Todo) (s : State) → Grown trace (who.Cpu i) s (cpu_on trace i todos s)
grown_cpu trace i [] s = inl refl
grown_cpu trace i (todo.Step item ∷ rest) s =
    let next = with_cpu i (record (cpu_of i s) { todo = rest; made = (cpu_of i s).made + 1 }) s in
    either (Grown trace (who.Cpu i) s) (is_halted trace.halt (cpu_of i s).made) (stop i s) _ (λ halted. inl refl)
    (λ on. either (Grown trace (who.Cpu i) s) (is_full s) (spend s) (make_step trace i item next) (λ full. inl refl)
    (λ room. ⊎_elim (λ same. inl same) (λ one. inr (one.entry, one.is, one.who)) (grew_step trace i item next)))
grown_cpu trace i (todo.Silent item ∷ rest) s = inl (silent_move trace i item (with_cpu i (record (cpu_of i s) { todo = rest }) s))

module _ (trace : Trace) (s : State) (many : length s.cpus ≡ trace.cpus) where
  grown_timer : (todos : List TimerTodo) → Grown trace who.Timer s (timer_on trace todos s)
  grown_timer [] = inl refl
  grown_timer (timer_todo.Step item ∷ rest) =
      either (Grown trace who.Timer s) (is_full s) (spend s) _ (λ full. inl refl)
      (λ room. let one = timer_makes trace item (with_timer (record s.timer { todo = rest }) s) in inr (one.entry, one.is, one.by ∙ many))
  grown_timer (timer_todo.Silent item ∷ rest) = inl (quiet_timer_move item (with_timer (record s.timer { todo = rest }) s))

  grown_on : (a : Actor) → Grown trace a s (go_on trace a s)
  grown_on (who.Cpu i) = grown_cpu trace i (cpu_of i s).todo s
  grown_on who.Timer = grown_timer s.timer.todo

  grown_take : (a : Actor) (found : Chance) → Grown trace a s (take trace a found s)
  grown_take a chance.Nothing = inl refl
  grown_take a chance.GoesOn = grown_on a
  grown_take a (chance.Begins job place) = inl (begins_silently trace a job place s)
  grown_take a chance.TimerBegins = inl refl

-- ---- a move

module _ (trace : Trace) (all : Facts trace) (s : State) (sound : Sound trace s) (none : s.orders ≡ []) where
  many : length s.cpus ≡ trace.cpus
  many = sound.holds.cpus.many

  abbrev next : State
  next = advance trace s

  -- without order lines the turn moves on by rotation
  rotates : (turn : Option Actor) → s.rotation ≡ turn → next ≡ rotate_from trace turn s
  rotates turn is = ap (λ (l : List Stretch). advance_by trace l s) none ∙ ap (λ (t : Option Actor). rotate_from trace t s) is

  finishes : (a : Actor) → IsUnderWay s a → Moves trace s next a
  finishes a at = by_ahead (ahead_of a s) refl
    where
      goes : next ≡ go_on trace a s → Moves trace s next a
      goes same = subst (λ (u : State). Moves trace s u a) (sym same)
          (record { turn = ap (λ (o : Order). o.rotation) (kept_on trace a s) ∙ at.turn; step = grown_on trace s many a })

      by_ahead : (n : Ahead) → ahead_of a s ≡ n → Moves trace s next a
      by_ahead ahead.Step is = goes (rotates (Some a) at.turn ∙ ap (λ (m : Ahead). finish_turn trace a m s) is)
      by_ahead ahead.Silent is = goes (rotates (Some a) at.turn ∙ ap (λ (m : Ahead). finish_turn trace a m s) is)
      by_ahead ahead.Nothing is = absurd (in_turn trace all s sound a at.next is)

  -- where no turn is under way, the next one is sought
  seeks : ((a : Actor) → ¬ IsUnderWay s a) → next ≡ next_turn trace s
  seeks idle = by_turn s.rotation refl
    where
      by_turn : (turn : Option Actor) → s.rotation ≡ turn → next ≡ next_turn trace s
      by_turn None is = rotates None is
      by_turn (Some a) is = rotates (Some a) is ∙ by_ahead (ahead_of a s) refl
        where
          by_ahead : (n : Ahead) → ahead_of a s ≡ n → finish_turn trace a n s ≡ next_turn trace s
          by_ahead ahead.Step e = absurd (idle a (record { turn = is; next = turn_in trace all s sound a (λ same. cc (sym e ∙ same)) }))
          by_ahead ahead.Silent e = absurd (idle a (record { turn = is; next = turn_in trace all s sound a (λ same. cc (sym e ∙ same)) }))
          by_ahead ahead.Nothing e = refl

  takes : (d : ℕ) → next ≡ take_turn trace (actor_after s d) s → Moves trace s next (actor_after s d)
  takes d same =
      let a : Actor = actor_after s d in
      let t : State = record s { rotation = Some a } in
      subst (λ (u : State). Moves trace s u a) (sym same)
      (record { turn = ap (λ (o : Order). o.rotation) (kept_take trace a (chance_of a s) t); step = grown_take trace t many a (chance_of a s) })

  passes : ((a : Actor) → ¬ IsUnderWay s a) → (further : ℕ) → IsFirst trace s further → Moves trace s next (actor_after s further)
  passes idle further first = by_search (sought trace s)
    where
      by_search : Sought trace s (place_after s.rotation s) (next_turn trace s) → Moves trace s next (actor_after s further)
      by_search (finds d within passed some is) =
          ⊎_elim (λ before. absurd (cc (sym some ∙ ap is_nothing (cannot_idle trace all s sound (actor_after s d) (first.others d before)))))
          (λ later. ⊎_elim (λ before. absurd (idle_cannot trace all s sound (actor_after s further) (no_chance _ (passed further before)) first.can))
          (λ same. let e : d ≡ further = omega (arith, later, same) in
          subst (λ (k : ℕ). Moves trace s next (actor_after s k)) e (takes d (seeks idle ∙ is)))
          (cases_lt further d))
          (cases_lt d further)
      by_search (finds_none passed is) = absurd (idle_cannot trace all s sound (actor_after s further) (no_chance _ (passed further first.within)) first.can)

  restarts : (advance trace s ≡ s → ⊥) → NobodyCan trace s → (next.rotation ≡ None) × (next.steps ≡ s.steps)
  restarts unstuck nobody = by_moment (next_moment s) refl
    where
      moved : (found : Option ℕ) → next_moment s ≡ found → next ≡ at_moment found s
      moved found is = idle_move trace s none (λ a. cannot_idle trace all s sound a (nobody a)) ∙ ap (λ (f : Option ℕ). at_moment f s) is

      by_moment : (found : Option ℕ) → next_moment s ≡ found → (next.rotation ≡ None) × (next.steps ≡ s.steps)
      by_moment None is = absurd (unstuck (moved None is))
      by_moment (Some m) is = (ap (λ (u : State). u.rotation) (moved (Some m) is), ap (λ (u : State). u.steps) (moved (Some m) is))

pub turns_fair : (trace : Trace) → IsLawful trace → StaysInRange trace → HasEnded trace → TurnsAreFair trace
turns_fair trace lawful stays ended moves going none =
    let s = state_at trace moves in
    let next = run_last trace moves (moves + 1) (opening trace) refl going in
    let all = facts trace lawful in
    let sound = stays.sound moves in
    subst (MovesTurn trace s) (sym next) (record {
      finishes = finishes trace all s sound none;
      passes = passes trace all s sound none;
      restarts = restarts trace all s sound none (never_stuck trace ended.0 moves going);
    })
