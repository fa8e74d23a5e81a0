-- A move of a run, from what its parts do: an actor goes on, a turn begins, or only the order lines, the rotation and the clock go on.
use Rattle.std.proofs.Common.{◌≡◌, ◌≢◌, ℕ, zero, suc, ◌+◌, Bool, true, false, leb, List, [], ◌∷◌, length, Option, Some, None, refl, sym, ◌∙◌, subst}
use Rattle.wbt_replay_order.proofs.Common.{Trace, State, cpu_of, begin_timer, Actor, Stretch, actor_at, after, ahead_of, turn_at, is_nothing, go_on, begin, begin_or_drop, follow, next_moment, at_moment, place_after, chance_of, chance_by, take, take_turn, seek_turn, next_turn, finish_turn, rotate_from, advance_by, advance}
use Rattle.wbt_replay_moves.specs.declared.state.Actor.TheVariants as who
use Rattle.wbt_replay_moves.specs.declared.state.Stretch.TheVariants as stretch
use Rattle.wbt_replay_order.specs.declared.chance.Ahead.{Ahead}
use Rattle.wbt_replay_order.specs.declared.chance.Ahead.TheVariants as ahead
use Rattle.wbt_replay_order.specs.declared.chance.Chance.{Chance}
use Rattle.wbt_replay_order.specs.declared.chance.Chance.TheVariants as chance
use Rattle.wbt_replay_order.proofs.Search.{IsFound, IsFree, IsTurn, free_cpu, free_timer, never_goes, never_times, turn_found}

-- the same with other order lines, where it is another's turn in the rotation
abbrev pub turned : (orders : List Stretch) (rotation : Option Actor) (s : State) → State
turned orders rotation s = record s { orders = orders; rotation = rotation }

-- and at another moment
abbrev pub clocked : (orders : List Stretch) (rotation : Option Actor) (now : ℕ) (s : State) → State
clocked orders rotation now s = record s { orders = orders; rotation = rotation; now = now }

-- what holds of the state after each part of a move from a state holds of that after the move
module _ (trace : Trace) (s : State) (R : State → Type 0)
    (passes : (orders : List Stretch) (rotation : Option Actor) (now : ℕ) → R (clocked orders rotation now s))
    (goes : (orders : List Stretch) (rotation : Option Actor) (actor : Actor) → ahead_of actor s ≢ ahead.Nothing → R (go_on trace actor (turned orders rotation s)))
    (begins : (orders : List Stretch) (rotation : Option Actor) (cpu job place : ℕ) → IsFree s cpu → IsTurn (cpu_of cpu s) s job place
    → R (begin trace (who.Cpu cpu) job place (turned orders rotation s)))
    (ticks : (orders : List Stretch) (rotation : Option Actor) → s.timer.todo ≡ [] → leb s.timer.next s.now ≡ true → R (begin_timer (turned orders rotation s))) where
  by_begin : (orders : List Stretch) (rotation : Option Actor) (actor : Actor) (job place : ℕ) → ahead_of actor s ≡ ahead.Nothing → turn_at actor s ≡ chance.Begins job place
      → R (begin trace actor job place (turned orders rotation s))
  by_begin orders rotation (who.Cpu cpu) job place idle is =
      begins orders rotation cpu job place (free_cpu s cpu job place idle is) (subst (IsFound (cpu_of cpu s) s) is (turn_found (cpu_of cpu s) s))
  by_begin orders rotation who.Timer job place idle is = passes orders rotation s.now

  by_tick : (orders : List Stretch) (rotation : Option Actor) (actor : Actor) → ahead_of actor s ≡ ahead.Nothing → turn_at actor s ≡ chance.TimerBegins
      → R (begin_timer (turned orders rotation s))
  by_tick orders rotation (who.Cpu cpu) idle is = absurd (never_times cpu s is)
  by_tick orders rotation who.Timer idle is = let free = free_timer s idle is in ticks orders rotation free.0 free.1

  by_found : (actor : Actor) (found : Chance) (more : List Stretch) → ahead_of actor s ≡ ahead.Nothing → turn_at actor s ≡ found → R (begin_or_drop trace actor found more s)
  by_found actor chance.Nothing more idle is = passes more s.rotation s.now
  by_found actor chance.GoesOn more idle is = absurd (never_goes actor s is)
  by_found actor (chance.Begins job place) more idle is = by_begin s.orders s.rotation actor job place idle is
  by_found actor chance.TimerBegins more idle is = by_tick s.orders s.rotation actor idle is

  by_line : (actor : Actor) (steps : ℕ) (next : Ahead) (more : List Stretch) → ahead_of actor s ≡ next → R (follow trace actor steps next more s)
  by_line actor steps ahead.Silent more is = goes s.orders s.rotation actor (λ none. cc (sym is ∙ none))
  by_line actor zero ahead.Step more is = passes more s.rotation s.now
  by_line actor (suc steps) ahead.Step more is = goes (stretch.Steps actor steps ∷ more) s.rotation actor (λ none. cc (sym is ∙ none))
  by_line actor zero ahead.Nothing more is = passes more s.rotation s.now
  by_line actor (suc steps) ahead.Nothing more is = by_found actor (turn_at actor s) more is refl

  by_moment : (found : Option ℕ) → R (at_moment found s)
  by_moment None = passes s.orders s.rotation s.now
  by_moment (Some moment) = passes s.orders None moment

  by_take : (actor : Actor) (found : Chance) → ahead_of actor s ≡ ahead.Nothing → turn_at actor s ≡ found → R (take trace actor found (turned s.orders (Some actor) s))
  by_take actor chance.Nothing idle is = passes s.orders (Some actor) s.now
  by_take actor chance.GoesOn idle is = absurd (never_goes actor s is)
  by_take actor (chance.Begins job place) idle is = by_begin s.orders (Some actor) actor job place idle is
  by_take actor chance.TimerBegins idle is = by_tick s.orders (Some actor) actor idle is

  by_chance : (actor : Actor) (next : Ahead) → ahead_of actor s ≡ next → R (take trace actor (chance_by next actor s) (turned s.orders (Some actor) s))
  by_chance actor ahead.Step is = goes s.orders (Some actor) actor (λ none. cc (sym is ∙ none))
  by_chance actor ahead.Silent is = goes s.orders (Some actor) actor (λ none. cc (sym is ∙ none))
  by_chance actor ahead.Nothing is = by_take actor (turn_at actor s) is refl

  by_seek : (tries place : ℕ) → R (seek_turn trace tries place s)
  unfolding seek_turn
  by_seek zero place = by_moment (next_moment s)
  by_seek (suc tries) place = by_found_one (is_nothing (chance_of (actor_at place s) s)) (by_seek tries (after (length s.cpus + 1) place))
    where
      by_found_one : (b : Bool) → R (seek_turn trace tries (after (length s.cpus + 1) place) s)
          → R (elim b as (λ _. State) [ true ↦ seek_turn trace tries (after (length s.cpus + 1) place) s | false ↦ take_turn trace (actor_at place s) s ])
      by_found_one true behind = behind
      by_found_one false behind = let actor : Actor = actor_at place s in by_chance actor (ahead_of actor s) refl

  by_next : R (next_turn trace s)
  by_next = by_seek (length s.cpus + 1) (place_after s.rotation s)

  by_finish : (actor : Actor) (next : Ahead) → ahead_of actor s ≡ next → R (finish_turn trace actor next s)
  by_finish actor ahead.Step is = goes s.orders s.rotation actor (λ none. cc (sym is ∙ none))
  by_finish actor ahead.Silent is = goes s.orders s.rotation actor (λ none. cc (sym is ∙ none))
  by_finish actor ahead.Nothing is = by_next

  by_rotation : (turn : Option Actor) → R (rotate_from trace turn s)
  by_rotation None = by_next
  by_rotation (Some actor) = by_finish actor (ahead_of actor s) refl

  by_orders : (orders : List Stretch) → R (advance_by trace orders s)
  by_orders [] = by_rotation s.rotation
  by_orders (stretch.Tick ticks ∷ more) = passes more s.rotation (s.now + ticks)
  by_orders (stretch.Steps actor steps ∷ more) = by_line actor steps (ahead_of actor s) more refl

  pub walked : R (advance trace s)
  walked = by_orders s.orders
