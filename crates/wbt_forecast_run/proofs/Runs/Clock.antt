-- A move that moves the clock changes nothing else but whose turn it is, the order lines, and how many steps may be made.
use Rattle.std.proofs.Common.{◌≡◌, ℕ, zero, suc, ◌&&◌, Bool, true, false, cond, List, [], ◌∷◌, Option, Some, None, refl, sym, ◌∙◌, ap, subst}
use Rattle.wbt_replay_order.proofs.Common.{Trace, extended, State, Actor, Stretch, actor_at, ahead_of, chance_of, turn_at, with_orders, begin_or_drop, follow, next_moment, at_moment, move_clock, place_after, next_turn, finish_turn, rotate_from, advance_by, advance, is_ended, is_full, fits_further}
use Rattle.wbt_replay_moves.specs.declared.state.Stretch.TheVariants as stretch
use Rattle.wbt_replay_order.specs.Definition.Order as order
use Rattle.wbt_replay_order.specs.declared.chance.Ahead.{Ahead}
use Rattle.wbt_replay_order.specs.declared.chance.Ahead.TheVariants as ahead
use Rattle.wbt_replay_order.specs.declared.chance.Chance.{Chance}
use Rattle.wbt_replay_order.specs.declared.chance.Chance.TheVariants as chance
use Rattle.wbt_replay_order.proofs.Facts.Lists.{either}
use Rattle.wbt_replay_turns.proofs.Kept.Actors.{kept_on, kept_take}
use Rattle.wbt_replay_turns.proofs.Kept.Items.{Order, Kept}
use Rattle.wbt_replay_turns.proofs.Kept.Turns.{kept_begin}
use Rattle.wbt_replay_turns.proofs.Seeking.{Sought, finds, finds_none, sought}
use Rattle.wbt_forecast_run.specs.Claims.{ClockAlone}
use Rattle.wbt_forecast_run.specs.Run.{let_on, moved}

module _ (trace : Trace) (s : State) where
  -- The clock stands still, or all else does.
  abbrev Alone : (u : State) → Type 0
  Alone u = (u.now ≡ s.now → ⊥) → record u { now = s.now; rotation = s.rotation; orders = s.orders } ≡ s

  stands : (u : State) → Kept s u → Alone u
  stands u kept leaves = absurd (leaves (ap (λ (o : Order). o.now) kept))

  by_moment : (found : Option ℕ) → Alone (at_moment found s)
  by_moment None leaves = refl
  by_moment (Some moment) leaves = refl

  by_search : (u : State) → Sought trace s (place_after s.rotation s) u → Alone u
  by_search u (finds d inside passed some is) =
      let a = actor_at _ s in
      λ leaves. absurd (leaves (ap (λ (v : State). v.now) is ∙ ap (λ (o : Order). o.now) (kept_take trace a (chance_of a s) (record s { rotation = Some a }))))
  by_search u (finds_none passed is) = subst Alone (sym is) (by_moment (next_moment s))

  by_ahead : (a : Actor) (next : Ahead) → Alone (finish_turn trace a next s)
  by_ahead a ahead.Step = stands (order.go_on trace a s) (kept_on trace a s)
  by_ahead a ahead.Silent = stands (order.go_on trace a s) (kept_on trace a s)
  by_ahead a ahead.Nothing = by_search (next_turn trace s) (sought trace s)

  by_rotation : (turn : Option Actor) → Alone (rotate_from trace turn s)
  by_rotation None = by_search (next_turn trace s) (sought trace s)
  by_rotation (Some a) = by_ahead a (ahead_of a s)

  by_found : (a : Actor) (found : Chance) (more : List Stretch) → Alone (begin_or_drop trace a found more s)
  by_found a chance.Nothing more = λ leaves. absurd (leaves refl)
  by_found a chance.GoesOn more = stands (order.go_on trace a s) (kept_on trace a s)
  by_found a (chance.Begins job place) more = stands (order.begin trace a job place s) (kept_begin trace a job place s)
  by_found a chance.TimerBegins more = λ leaves. absurd (leaves refl)

  by_line : (a : Actor) (steps : ℕ) (next : Ahead) (more : List Stretch) → Alone (follow trace a steps next more s)
  by_line a steps ahead.Silent more = stands (order.go_on trace a s) (kept_on trace a s)
  by_line a zero ahead.Step more = λ leaves. absurd (leaves refl)
  by_line a (suc steps) ahead.Step more =
      λ leaves. absurd (leaves (ap (λ (o : Order). o.now) (kept_on trace a (with_orders (stretch.Steps a steps ∷ more) s))))
  by_line a zero ahead.Nothing more = λ leaves. absurd (leaves refl)
  by_line a (suc steps) ahead.Nothing more = by_found a (turn_at a s) more

  by_orders : (orders : List Stretch) → Alone (advance_by trace orders s)
  by_orders [] = by_rotation s.rotation
  by_orders (stretch.Tick ticks ∷ more) = λ leaves. refl
  by_orders (stretch.Steps a steps ∷ more) = by_line a steps (ahead_of a s) more

  advances_alone : Alone (advance trace s)
  advances_alone = by_orders s.orders

module _ (trace : Trace) (s : State) where
  -- likewise from the state that was let on
  abbrev LeavesAlone : (u : State) → Type 0
  LeavesAlone u = (u.now ≡ s.now → ⊥) → record u { now = s.now; rotation = s.rotation; orders = s.orders; most = s.most } ≡ s

  by_let : (b : Bool) → LeavesAlone (advance trace (cond b (extended s) s))
  by_let true leaves = ap (λ (u : State). record u { most = s.most }) (advances_alone trace (extended s) leaves)
  by_let false leaves = ap (λ (u : State). record u { most = s.most }) (advances_alone trace s leaves)

  moves_alone : LeavesAlone (moved trace s)
  moves_alone = either LeavesAlone (is_ended s) s (advance trace (let_on s))
      (λ over leaves. absurd (leaves refl)) (λ going. by_let (is_full s && fits_further s))

pub clock_alone : ClockAlone
clock_alone = λ trace s leaves. moves_alone trace s leaves
