-- What an actor can do whose turn comes: it goes on, or begins a turn, or neither.
use Rattle.std.proofs.Common.{◌≡◌, ℕ, ◌<◌, ◌≤◌, Bool, true, false, not, ◌&&◌, cond, leb, List, [], ◌∷◌, length, refl, sym, ◌∙◌, ap, subst, arith, ⊎_elim}
use Rattle.std.proofs.lemmas.Bool.{cases_lt, cond-true, cond-false}
use Rattle.std.proofs.lemmas.List.{get_or_past}
use Rattle.wbt_replay_order.proofs.Common.{Trace, State, no_cpu, cpu_of, is_drained, Actor, Cpu, TimerTodo, Todo, todo_ahead, timer_todo_ahead, cpu_ahead, timer_ahead, ahead_of, cpu_turn, timer_turn, turn_at, chance_by, chance_of}
use Rattle.wbt_replay_moves.specs.declared.state.Actor.TheVariants as who
use Rattle.wbt_replay_moves.specs.declared.todo.TimerTodo.TheVariants as timer_todo
use Rattle.wbt_replay_moves.specs.declared.todo.Todo.TheVariants as todo
use Rattle.wbt_replay_order.specs.declared.chance.Ahead.{Ahead as Next}
use Rattle.wbt_replay_order.specs.declared.chance.Ahead.TheVariants as next
use Rattle.wbt_replay_order.specs.declared.chance.Chance.{Chance}
use Rattle.wbt_replay_order.specs.declared.chance.Chance.TheVariants as chance
use Rattle.wbt_replay_order.proofs.Facts.Actors.{past_turn}
use Rattle.wbt_replay_order.proofs.Facts.Lists.{either}
use Rattle.wbt_replay_order.proofs.Search.{IsTurn, IsFound, no_item, no_timer_item, turn_found}
use Rattle.wbt_replay_ends.proofs.Ends.Turning.{Turning}

-- ---- what an actor can do

-- the actor goes on
abbrev pub GoesOn : (s : State) (a : Actor) → Type 0
GoesOn s (who.Cpu i) = (i < length s.cpus) × ((cpu_of i s).stopped ≡ false) × (1 ≤ length (cpu_of i s).todo)
GoesOn s who.Timer = (is_drained s ≡ false) × (1 ≤ length s.timer.todo)

-- it begins a turn of a job
abbrev pub BeginsTurn : (s : State) (a : Actor) (n place : ℕ) → Type 0
BeginsTurn s (who.Cpu i) n place = (i < length s.cpus) × ((cpu_of i s).todo ≡ []) × ((cpu_of i s).stopped ≡ false) × IsTurn (cpu_of i s) s n place
BeginsTurn s who.Timer n place = ⊥

abbrev pub Can : (s : State) (a : Actor) (found : Chance) → Type 0
Can s a chance.Nothing = Unit {0}
Can s a chance.GoesOn = GoesOn s a
Can s a (chance.Begins n place) = BeginsTurn s a n place
Can s a chance.TimerBegins = s.timer.todo ≡ []

-- what a list says that is next
abbrev pub Nexts : (s : State) (a : Actor) (n : Next) → Type 0
Nexts s a next.Step = GoesOn s a
Nexts s a next.Silent = GoesOn s a
Nexts s a next.Nothing = Unit {0}

module _ (trace : Trace) (s : State) (at : Turning trace s) where
  -- ---- a CPU

  module _ (i : ℕ) where
    busy : (item : Todo) (ts : List Todo) → (cpu_of i s).todo ≡ item ∷ ts → (cpu_of i s).stopped ≡ false → GoesOn s (who.Cpu i)
    busy item ts is going =
        let some : length (cpu_of i s).todo ≡ length (item ∷ ts) = ap (λ (l : List Todo). length l) is in
        (there (omega (arith, some)), going, omega (arith, some))
      where
        there : 1 ≤ length (cpu_of i s).todo → i < length s.cpus
        there some = ⊎_elim (λ less. less)
            (λ past. absurd (omega (arith, some, ap (λ (c : Cpu). length c.todo) (get_or_past s.cpus i no_cpu past)))) (cases_lt i (length s.cpus))

    cpu_nexts : Nexts s (who.Cpu i) (cpu_ahead (cpu_of i s))
    cpu_nexts = either (Nexts s (who.Cpu i)) (cpu_of i s).stopped next.Nothing (todo_ahead (cpu_of i s).todo) (λ is. tt) (λ going. by_todo (cpu_of i s).todo refl going)
      where
        by_todo : (ts : List Todo) → (cpu_of i s).todo ≡ ts → (cpu_of i s).stopped ≡ false → Nexts s (who.Cpu i) (todo_ahead ts)
        by_todo [] is going = tt
        by_todo (todo.Step item ∷ ts) is going = busy (todo.Step item) ts is going
        by_todo (todo.Silent item ∷ ts) is going = busy (todo.Silent item) ts is going

    -- a CPU with nothing ahead is stopped, or its list is empty
    cpu_free : cpu_ahead (cpu_of i s) ≡ next.Nothing → (cpu_of i s).stopped ≡ false → (cpu_of i s).todo ≡ []
    cpu_free is going = no_item (cpu_of i s).todo (sym (cond-false (cpu_of i s).stopped next.Nothing (todo_ahead (cpu_of i s).todo) going) ∙ is)

    module _ (there : i < length s.cpus) where
      cpu_can : cpu_ahead (cpu_of i s) ≡ next.Nothing → Can s (who.Cpu i) (cpu_turn (cpu_of i s) s)
      cpu_can is = by_stop (cpu_of i s).stopped refl
        where
          by_found : (cpu_of i s).stopped ≡ false → (found : Chance) → IsFound (cpu_of i s) s found → Can s (who.Cpu i) found
          by_found going chance.Nothing h = tt
          by_found going chance.GoesOn h = absurd h
          by_found going (chance.Begins n place) h = (there, cpu_free is going, going, h)
          by_found going chance.TimerBegins h = absurd h

          by_stop : (b : Bool) → (cpu_of i s).stopped ≡ b → Can s (who.Cpu i) (cpu_turn (cpu_of i s) s)
          by_stop true halted = subst (Can s (who.Cpu i)) (sym (cond-true (cpu_of i s).stopped chance.Nothing _ halted)) tt
          by_stop false going = by_found going (cpu_turn (cpu_of i s) s) (turn_found (cpu_of i s) s)

    can_cpu : cpu_ahead (cpu_of i s) ≡ next.Nothing → Can s (who.Cpu i) (turn_at (who.Cpu i) s)
    can_cpu is = ⊎_elim (λ there. cpu_can there is) (λ past. subst (Can s (who.Cpu i)) (sym (past_turn s i past)) tt) (cases_lt i (length s.cpus))

  -- ---- the timer

  timer_nexts : Nexts s who.Timer (timer_ahead s)
  timer_nexts = either (Nexts s who.Timer) (is_drained s) next.Nothing (timer_todo_ahead s.timer.todo) (λ is. tt) (λ going. by_todo going s.timer.todo refl)
    where
      by_todo : is_drained s ≡ false → (ts : List TimerTodo) → s.timer.todo ≡ ts → Nexts s who.Timer (timer_todo_ahead ts)
      by_todo going [] is = tt
      by_todo going (timer_todo.Step item ∷ ts) is = (going, omega (arith, ap (λ (l : List TimerTodo). length l) is))
      by_todo going (timer_todo.Silent item ∷ ts) is = (going, omega (arith, ap (λ (l : List TimerTodo). length l) is))

  timer_free : timer_ahead s ≡ next.Nothing → is_drained s ≡ false → s.timer.todo ≡ []
  timer_free is going = no_timer_item s.timer.todo (sym (cond-false (is_drained s) next.Nothing (timer_todo_ahead s.timer.todo) going) ∙ is)

  timer_can : timer_ahead s ≡ next.Nothing → Can s who.Timer (timer_turn s)
  timer_can is = by_drain (is_drained s) refl
    where
      by_drain : (b : Bool) → is_drained s ≡ b → Can s who.Timer (timer_turn s)
      by_drain true drained = subst (λ b. Can s who.Timer (cond (not b && leb s.timer.next s.now) chance.TimerBegins chance.Nothing)) (sym drained) tt
      by_drain false running = either (Can s who.Timer) (not (is_drained s) && leb s.timer.next s.now) chance.TimerBegins chance.Nothing
          (λ ready. timer_free is running)
          (λ other. tt)

  -- ---- any actor

  pub nexts : (a : Actor) → Nexts s a (ahead_of a s)
  nexts (who.Cpu i) = cpu_nexts i
  nexts who.Timer = timer_nexts

  pub can_turn : (a : Actor) → ahead_of a s ≡ next.Nothing → Can s a (turn_at a s)
  can_turn (who.Cpu i) none = can_cpu i none
  can_turn who.Timer none = timer_can none

  pub can_chance : (a : Actor) → Can s a (chance_of a s)
  can_chance a = by_next (ahead_of a s) refl (nexts a)
    where
      by_next : (n : Next) → ahead_of a s ≡ n → Nexts s a n → Can s a (chance_by n a s)
      by_next next.Step is h = h
      by_next next.Silent is h = h
      by_next next.Nothing is h = can_turn a is
