-- A move leaves the order lines as they are, takes the first one away, or makes it ask for one step less.
use Rattle.std.proofs.Common.{◌≡◌, ℕ, zero, suc, ◌+◌, List, [], ◌∷◌, Option, Some, None, ⊎_elim, refl, sym, ◌∙◌, ap, subst}
use Rattle.std.proofs.lemmas.Bool.{cases_Bool}
use Rattle.wbt_replay_order.proofs.Common.{Trace, State, Actor, Stretch, opening, ahead_of, chance_of, turn_at, go_on, begin, with_orders, begin_or_drop, follow, next_moment, at_moment, next_turn, finish_turn, rotate_from, place_after, advance_by, advance, is_ended, state_at}
use Rattle.wbt_replay_moves.specs.declared.state.Stretch.TheVariants as stretch
use Rattle.wbt_replay_order.specs.declared.chance.Ahead.{Ahead}
use Rattle.wbt_replay_order.specs.declared.chance.Ahead.TheVariants as ahead
use Rattle.wbt_replay_order.specs.declared.chance.Chance.{Chance}
use Rattle.wbt_replay_order.specs.declared.chance.Chance.TheVariants as chance
use Rattle.wbt_replay_order.proofs.Growth.Runs.{run_last, run_stays}
use Rattle.wbt_replay_turns.specs.Lines.{MovesOrders, stay, done, less}
use Rattle.wbt_replay_turns.proofs.Kept.Actors.{kept_on, kept_take}
use Rattle.wbt_replay_turns.proofs.Kept.Items.{Order, Kept}
use Rattle.wbt_replay_turns.proofs.Kept.Turns.{kept_begin}
use Rattle.wbt_replay_turns.proofs.Seeking.{Sought, finds, finds_none, sought}

module _ (trace : Trace) (s : State) where
  abbrev Moves : (u : State) → Type 0
  Moves u = MovesOrders s.orders u.orders

  stays : (u : State) → Kept s u → Moves u
  stays u kept = stay (ap (λ (o : Order). o.orders) kept)

  by_moment : (found : Option ℕ) → Moves (at_moment found s)
  by_moment None = stay refl
  by_moment (Some m) = stay refl

  by_search : (u : State) → Sought trace s (place_after s.rotation s) u → Moves u
  by_search u (finds d inside passed some is) =
      stay (ap (λ (v : State). v.orders) is ∙ ap (λ (o : Order). o.orders) (kept_take trace _ (chance_of _ s) (record s { rotation = Some _ })))
  by_search u (finds_none passed is) = subst Moves (sym is) (by_moment (next_moment s))

  by_next : Moves (next_turn trace s)
  by_next = by_search (next_turn trace s) (sought trace s)

  by_finish : (a : Actor) (next : Ahead) → Moves (finish_turn trace a next s)
  by_finish a ahead.Step = stays (go_on trace a s) (kept_on trace a s)
  by_finish a ahead.Silent = stays (go_on trace a s) (kept_on trace a s)
  by_finish a ahead.Nothing = by_next

  by_rotation : (turn : Option Actor) → Moves (rotate_from trace turn s)
  by_rotation None = by_next
  by_rotation (Some a) = by_finish a (ahead_of a s)

  by_found : (a : Actor) (found : Chance) (steps : ℕ) (more : List Stretch) → s.orders ≡ stretch.Steps a steps ∷ more → Moves (begin_or_drop trace a found more s)
  by_found a chance.Nothing steps more is = done (stretch.Steps a steps) more is refl
  by_found a chance.GoesOn steps more is = stays (go_on trace a s) (kept_on trace a s)
  by_found a (chance.Begins n place) steps more is = stays (begin trace a n place s) (kept_begin trace a n place s)
  by_found a chance.TimerBegins steps more is = stay refl

  by_line : (a : Actor) (steps : ℕ) (next : Ahead) (more : List Stretch) → s.orders ≡ stretch.Steps a steps ∷ more → Moves (follow trace a steps next more s)
  by_line a steps ahead.Silent more is = stays (go_on trace a s) (kept_on trace a s)
  by_line a zero ahead.Step more is = done (stretch.Steps a zero) more is refl
  by_line a (suc steps) ahead.Step more is =
      less a steps more is (ap (λ (o : Order). o.orders) (kept_on trace a (with_orders (stretch.Steps a steps ∷ more) s)))
  by_line a zero ahead.Nothing more is = done (stretch.Steps a zero) more is refl
  by_line a (suc steps) ahead.Nothing more is = by_found a (turn_at a s) (suc steps) more is

  moves_orders : Moves (advance trace s)
  moves_orders = by_orders s.orders refl
    where
      by_orders : (orders : List Stretch) → s.orders ≡ orders → Moves (advance_by trace orders s)
      by_orders [] is = by_rotation s.rotation
      by_orders (stretch.Tick ticks ∷ more) is = done (stretch.Tick ticks) more is refl
      by_orders (stretch.Steps a steps ∷ more) is = by_line a steps (ahead_of a s) more is

pub orders_moved : (trace : Trace) (moves : ℕ) → MovesOrders (state_at trace moves).orders (state_at trace (moves + 1)).orders
orders_moved trace moves = ⊎_elim
    (λ over. stay (ap (λ (t : State). t.orders) (run_stays trace moves (moves + 1) (opening trace) refl over)))
    (λ going.
    subst (λ (t : State). MovesOrders (state_at trace moves).orders t.orders) (sym (run_last trace moves (moves + 1) (opening trace) refl going))
    (moves_orders trace (state_at trace moves)))
    (cases_Bool (is_ended (state_at trace moves)))
