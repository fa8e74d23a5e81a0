-- Each move of a run, and so each of its states, is sound.
use Rattle.std.proofs.Common.{◌≡◌, ℕ, zero, suc, ◌+◌, Bool, true, false, List, [], ◌∷◌, length, refl, ◌∙◌, ap, arith, Option, Some, None}
use Rattle.std.specs.List.{sum_by}
use Rattle.std.proofs.lemmas.List.Elements.{All-cons}
use Rattle.std.proofs.lemmas.List.Sums.{sum_by-cons}
use Rattle.wbt_replay_order.proofs.Common.{Trace, State, Actor, Cpu, Stretch, opening, actor_at, after, ahead_of, go_on, is_nothing, turn_at, with_orders, begin_or_drop, follow, place_after, chance_by, chance_of, take, take_turn, seek_turn, next_turn, finish_turn, rotate_from, advance_by, advance, is_ended, run, state_at, Facts, ticks_of, Sound, HasRoom, IsStretch}
use Rattle.wbt_replay_moves.specs.declared.state.Actor.TheVariants as who
use Rattle.wbt_replay_moves.specs.declared.state.Stretch.TheVariants as stretch
use Rattle.wbt_replay_order.specs.Kept.Sound.{IsActor}
use Rattle.wbt_replay_order.specs.declared.chance.Ahead.{Ahead}
use Rattle.wbt_replay_order.specs.declared.chance.Ahead.TheVariants as ahead
use Rattle.wbt_replay_order.specs.declared.chance.Chance.{Chance}
use Rattle.wbt_replay_order.specs.declared.chance.Chance.TheVariants as chance
use Rattle.wbt_replay_ranges.proofs.Sound.Clock.{clock_kept, turn_kept, orders_kept, tick_kept}
use Rattle.wbt_replay_order.proofs.Lists.Numbered.{all_rest}
use Rattle.wbt_replay_ranges.proofs.Sound.Moves.{Keeps, Lives, go_on_kept}
use Rattle.wbt_replay_order.proofs.Search.{free_timer, never_goes, never_times}
use Rattle.wbt_replay_ranges.proofs.Sound.Orders.{lives_of, begins_kept}
use Rattle.wbt_replay_ranges.proofs.Sound.TimerMoves.{timer_begins}

-- who begins the timer's turn is the timer, which has nothing left of its last one
free_of : (actor : Actor) (s : State) → ahead_of actor s ≡ ahead.Nothing → turn_at actor s ≡ chance.TimerBegins → s.timer.todo ≡ []
free_of (who.Cpu i) s none is = absurd (never_times i s is)
free_of who.Timer s none is = (free_timer s none is).0

module _ (trace : Trace) (facts : Facts trace) where
  -- ---- the order lines

  module _ (s : State) (sound : Sound trace s) (room : HasRoom trace s) where
    drop_kept : (o : Stretch) (more : List Stretch) → s.orders ≡ o ∷ more → Keeps trace (with_orders more s)
    drop_kept o more first =
        let parts = all_rest (IsStretch trace) s.orders o more first sound.holds.orders in
        let sums : sum_by ticks_of s.orders ≡ ticks_of o + sum_by ticks_of more = ap (sum_by ticks_of) first ∙ sum_by-cons ticks_of o more in
        orders_kept trace s sound room more parts.1 (omega (arith, sums))

    -- An actor that has nothing to do either begins a turn or does nothing.
    found_kept : (actor : Actor) (c : Chance) (o : Stretch) (more : List Stretch) → s.orders ≡ o ∷ more → ahead_of actor s ≡ ahead.Nothing → turn_at actor s ≡ c → Keeps trace (begin_or_drop trace actor c more s)
    found_kept actor chance.Nothing o more first none is = drop_kept o more first
    found_kept actor chance.GoesOn o more first none is = absurd (never_goes actor s is)
    found_kept actor (chance.Begins n place) o more first none is = begins_kept trace facts s s.rotation sound room actor n place none is
    found_kept actor chance.TimerBegins o more first none is = timer_begins trace facts s sound room (free_of actor s none is)

    lives_there : {orders : List Stretch} (k : Sound trace (with_orders orders s)) (r : HasRoom trace (with_orders orders s)) (x : Actor) → Lives trace facts s sound room x → Lives trace facts (with_orders orders s) k r x
    lives_there k r (who.Cpu i) lives = lives
    lives_there k r who.Timer lives = lives

    -- the actor's line, with so many steps left
    follow_kept : (actor : Actor) (steps : ℕ) (a : Ahead) (o : Stretch) (more : List Stretch) → s.orders ≡ o ∷ more → ticks_of o ≡ 0 → IsActor trace actor → ahead_of actor s ≡ a → Keeps trace (follow trace actor steps a more s)
    follow_kept actor steps ahead.Silent o more first none few is = go_on_kept trace facts s sound room actor (lives_of trace facts s sound room actor ahead.Silent is (λ e. absurd (cc e)))
    follow_kept actor zero ahead.Step o more first none few is = drop_kept o more first
    follow_kept actor (suc steps) ahead.Step o more first none few is =
        let lives = lives_of trace facts s sound room actor ahead.Step is (λ e. absurd (cc e)) in
        let parts = all_rest (IsStretch trace) s.orders o more first sound.holds.orders in
        let now : List Stretch = stretch.Steps actor steps ∷ more in
        let sums : sum_by ticks_of s.orders ≡ ticks_of o + sum_by ticks_of more = ap (sum_by ticks_of) first ∙ sum_by-cons ticks_of o more in
        let after' = sum_by-cons ticks_of (stretch.Steps actor steps) more in
        let k = orders_kept trace s sound room now (All-cons (IsStretch trace) (stretch.Steps actor steps) more few parts.1) (omega (arith, sums, after')) in
        go_on_kept trace facts (with_orders now s) k.0 k.1 actor (lives_there k.0 k.1 actor lives)
    follow_kept actor zero ahead.Nothing o more first none few is = drop_kept o more first
    follow_kept actor (suc steps) ahead.Nothing o more first none few is = found_kept actor (turn_at actor s) o more first is refl

  -- ---- the rotation

  -- what an actor can do, in a state where it is its turn
  module _ (s : State) (sound : Sound trace s) (room : HasRoom trace s) (actor : Actor) where
    abbrev here : State
    here = record s { rotation = Some actor }

    goes_kept : (a : Ahead) → ahead_of actor s ≡ a → (a ≡ ahead.Nothing → ⊥) → Keeps trace (go_on trace actor here)
    goes_kept a is some =
        let k = turn_kept trace s sound room (Some actor) in
        go_on_kept trace facts here k.0 k.1 actor (lives_here actor (lives_of trace facts s sound room actor a is some))
      where
        lives_here : (x : Actor) → Lives trace facts s sound room x → Lives trace facts here (turn_kept trace s sound room (Some actor)).0 (turn_kept trace s sound room (Some actor)).1 x
        lives_here (who.Cpu i) lives = lives
        lives_here who.Timer lives = lives

    take_kept : (a : Ahead) → ahead_of actor s ≡ a → is_nothing (chance_by a actor s) ≡ false → Keeps trace (take trace actor (chance_by a actor s) here)
    take_kept ahead.Step is some = goes_kept ahead.Step is (λ e. absurd (cc e))
    take_kept ahead.Silent is some = goes_kept ahead.Silent is (λ e. absurd (cc e))
    take_kept ahead.Nothing is some = by_turn (turn_at actor s) refl some
      where
        by_turn : (c : Chance) → turn_at actor s ≡ c → is_nothing c ≡ false → Keeps trace (take trace actor c here)
        by_turn chance.Nothing e none = absurd (cc none)
        by_turn chance.GoesOn e none = absurd (never_goes actor s e)
        by_turn (chance.Begins n place) e none =
            let k = turn_kept trace s sound room (Some actor) in
            begins_kept trace facts s (Some actor) k.0 k.1 actor n place is e
        by_turn chance.TimerBegins e none =
            let k = turn_kept trace s sound room (Some actor) in
            timer_begins trace facts here k.0 k.1 (free_of actor s is e)

  seek_kept : (s : State) → Sound trace s → HasRoom trace s → (tries place : ℕ) → Keeps trace (seek_turn trace tries place s)
  unfolding seek_turn
  seek_kept s sound room zero place = clock_kept trace s sound room
  seek_kept s sound room (suc tries) place =
      by_none (is_nothing (chance_of (actor_at place s) s)) refl (seek_kept s sound room tries (after (length s.cpus + 1) place))
    where
      by_none : (b : Bool) → is_nothing (chance_of (actor_at place s) s) ≡ b → Keeps trace (seek_turn trace tries (after (length s.cpus + 1) place) s)
          → Keeps trace (elim b [ true ↦ seek_turn trace tries (after (length s.cpus + 1) place) s | false ↦ take_turn trace (actor_at place s) s ])
      by_none true e more = more
      by_none false e more = take_kept s sound room (actor_at place s) (ahead_of (actor_at place s) s) refl e

  next_kept : (s : State) → Sound trace s → HasRoom trace s → Keeps trace (next_turn trace s)
  next_kept s sound room = seek_kept s sound room (length s.cpus + 1) (place_after s.rotation s)

  finish_kept : (s : State) → Sound trace s → HasRoom trace s → (actor : Actor) (a : Ahead) → ahead_of actor s ≡ a → Keeps trace (finish_turn trace actor a s)
  finish_kept s sound room actor ahead.Step is = go_on_kept trace facts s sound room actor (lives_of trace facts s sound room actor ahead.Step is (λ e. absurd (cc e)))
  finish_kept s sound room actor ahead.Silent is = go_on_kept trace facts s sound room actor (lives_of trace facts s sound room actor ahead.Silent is (λ e. absurd (cc e)))
  finish_kept s sound room actor ahead.Nothing is = next_kept s sound room

  rotate_kept : (s : State) → Sound trace s → HasRoom trace s → (turn : Option Actor) → Keeps trace (rotate_from trace turn s)
  rotate_kept s sound room None = next_kept s sound room
  rotate_kept s sound room (Some actor) = finish_kept s sound room actor (ahead_of actor s) refl

  -- ---- one move

  by_orders : (s : State) → Sound trace s → HasRoom trace s → (orders : List Stretch) → s.orders ≡ orders → Keeps trace (advance_by trace orders s)
  by_orders s sound room [] is = rotate_kept s sound room s.rotation
  by_orders s sound room (stretch.Tick ticks ∷ more) is = tick_kept trace s sound room ticks more is
  by_orders s sound room (stretch.Steps actor steps ∷ more) is =
      let parts = all_rest (IsStretch trace) s.orders (stretch.Steps actor steps) more is sound.holds.orders in
      follow_kept s sound room actor steps (ahead_of actor s) (stretch.Steps actor steps) more is refl parts.0 refl

  -- A move keeps the state sound, and leaves room.
  pub sound_kept : (s : State) → Sound trace s → HasRoom trace s → Sound trace (advance trace s) × HasRoom trace (advance trace s)
  sound_kept s sound room = by_orders s sound room s.orders refl

  -- ---- the run

  pub run_sound : (moves : ℕ) (s : State) → Sound trace s → HasRoom trace s → Sound trace (run trace moves s) × HasRoom trace (run trace moves s)
  unfolding run
  run_sound zero s sound room = (sound, room)
  run_sound (suc moves) s sound room =
      let k = sound_kept s sound room in
      by_end (is_ended s) (run_sound moves (advance trace s) k.0 k.1)
    where
      by_end : (b : Bool) → Keeps trace (run trace moves (advance trace s)) → Keeps trace (elim b [ true ↦ s | false ↦ run trace moves (advance trace s) ])
      by_end true more = (sound, room)
      by_end false more = more

  -- At each moment of a run that begins in a sound state, the state is sound.
  pub state_sound : (moves : ℕ) → Sound trace (opening trace) → HasRoom trace (opening trace) → Sound trace (state_at trace moves) × HasRoom trace (state_at trace moves)
  state_sound moves sound room = run_sound moves (opening trace) sound room
