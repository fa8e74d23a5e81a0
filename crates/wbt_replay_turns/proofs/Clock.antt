-- The clock moves by tick lines, and where nobody can do anything, and at no other time.
use Rattle.std.proofs.Common.{◌≡◌, ◌⊎◌, inl, inr, ℕ, zero, suc, ◌+◌, ◌≤◌, false, true≢false, List, [], ◌∷◌, length, Option, Some, None, ⊎_elim, refl, sym, ◌∙◌, ap, subst, arith}
use Rattle.std.proofs.lemmas.Bool.{cases_Bool, cases_eq}
use Rattle.wbt_replay_order.proofs.Common.{IsLawful, Trace, State, Actor, Stretch, HasEnded, opening, opening_moment, actor_at, ahead_of, chance_by, chance_of, turn_at, is_nothing, with_orders, begin_or_drop, follow, next_moment, at_moment, move_clock, place_after, take_turn, next_turn, finish_turn, rotate_from, advance_by, advance, is_ended, state_at, StaysInRange}
use Rattle.wbt_replay_moves.specs.declared.state.Stretch.TheVariants as stretch
use Rattle.wbt_replay_order.specs.Definition.Order as order
use Rattle.wbt_replay_order.specs.declared.chance.Ahead.{Ahead}
use Rattle.wbt_replay_order.specs.declared.chance.Ahead.TheVariants as ahead
use Rattle.wbt_replay_order.specs.declared.chance.Chance.{Chance}
use Rattle.wbt_replay_order.specs.declared.chance.Chance.TheVariants as chance
use Rattle.wbt_replay_order.proofs.Facts.Actors.{place_below}
use Rattle.wbt_replay_order.proofs.Facts.Facts.{facts}
use Rattle.wbt_replay_order.proofs.Growth.Runs.{run_last, run_stays}
use Rattle.wbt_replay_turns.specs.Able.{NobodyCan}
use Rattle.wbt_replay_turns.specs.Clock.{IsNextMoment, TicksNext, MovesClock, ClockIsRight}
use Rattle.wbt_replay_turns.specs.Rotation.{round_to}
use Rattle.wbt_replay_turns.proofs.Able.{cannot_idle, idle_cannot}
use Rattle.wbt_replay_turns.proofs.Kept.Actors.{kept_on, kept_take}
use Rattle.wbt_replay_turns.proofs.Kept.Items.{Order, Kept}
use Rattle.wbt_replay_turns.proofs.Kept.Turns.{kept_begin}
use Rattle.wbt_replay_turns.proofs.Moments.{next_is}
use Rattle.wbt_replay_turns.proofs.Runs.{never_stuck}
use Rattle.wbt_replay_turns.proofs.Seeking.{Sought, finds, finds_none, sought, Idle, all_pass}

-- ---- nobody can do anything

-- who can't do anything has nothing ahead
pub nothing_ahead : (s : State) (a : Actor) → chance_of a s ≡ chance.Nothing → ahead_of a s ≡ ahead.Nothing
nothing_ahead s a none = by_ahead (ahead_of a s) none
  where
    by_ahead : (next : Ahead) → chance_by next a s ≡ chance.Nothing → next ≡ ahead.Nothing
    by_ahead ahead.Nothing is = refl
    by_ahead ahead.Step is = absurd (cc is)
    by_ahead ahead.Silent is = absurd (cc is)

module _ (trace : Trace) (s : State) where
  -- then the clock moves
  pub idle_move : s.orders ≡ [] → Idle s → advance trace s ≡ move_clock s
  idle_move none nobody = ap (λ (l : List Stretch). advance_by trace l s) none ∙ (by_turn s.rotation ∙ by_search (sought trace s))
    where
      by_turn : (turn : Option Actor) → rotate_from trace turn s ≡ next_turn trace s
      by_turn None = refl
      by_turn (Some a) = ap (λ (n : Ahead). finish_turn trace a n s) (nothing_ahead s a (nobody a))

      by_search : Sought trace s (place_after s.rotation s) (next_turn trace s) → next_turn trace s ≡ move_clock s
      by_search (finds d inside passed some is) =
          absurd (true≢false (ap is_nothing (sym (nobody (actor_at (round_to (length s.cpus + 1) (place_after s.rotation s) d) s))) ∙ some))
      by_search (finds_none passed is) = is

  -- ---- what moves the clock

  -- The clock stands still, or it has leave to move.
  abbrev MayMove : (u : State) → Type 0
  MayMove u = (u.now ≡ s.now) ⊎ (TicksNext s.orders ⊎ ((s.orders ≡ []) × Idle s))

  stands : (u : State) → Kept s u → MayMove u
  stands u kept = inl (ap (λ (o : Order). o.now) kept)

  by_search : s.orders ≡ [] → (u : State) → Sought trace s (place_after s.rotation s) u → MayMove u
  by_search none u (finds d inside passed some is) =
      let a = actor_at _ s in
      inl (ap (λ (v : State). v.now) is ∙ ap (λ (o : Order). o.now) (kept_take trace a (chance_of a s) (record s { rotation = Some a })))
  by_search none u (finds_none passed is) = inr (inr (none, all_pass s (place_after s.rotation s) (place_below s.rotation s) passed))

  by_rotation : s.orders ≡ [] → (turn : Option Actor) → MayMove (rotate_from trace turn s)
  by_rotation none None = by_search none (next_turn trace s) (sought trace s)
  by_rotation none (Some a) = by_ahead (ahead_of a s)
    where
      by_ahead : (next : Ahead) → MayMove (finish_turn trace a next s)
      by_ahead ahead.Step = stands (order.go_on trace a s) (kept_on trace a s)
      by_ahead ahead.Silent = stands (order.go_on trace a s) (kept_on trace a s)
      by_ahead ahead.Nothing = by_search none (next_turn trace s) (sought trace s)

  by_found : (a : Actor) (found : Chance) (more : List Stretch) → MayMove (begin_or_drop trace a found more s)
  by_found a chance.Nothing more = inl refl
  by_found a chance.GoesOn more = stands (order.go_on trace a s) (kept_on trace a s)
  by_found a (chance.Begins job place) more = stands (order.begin trace a job place s) (kept_begin trace a job place s)
  by_found a chance.TimerBegins more = inl refl

  by_line : (a : Actor) (steps : ℕ) (next : Ahead) (more : List Stretch) → MayMove (follow trace a steps next more s)
  by_line a steps ahead.Silent more = stands (order.go_on trace a s) (kept_on trace a s)
  by_line a zero ahead.Step more = inl refl
  by_line a (suc steps) ahead.Step more = inl (ap (λ (o : Order). o.now) (kept_on trace a (with_orders (stretch.Steps a steps ∷ more) s)))
  by_line a zero ahead.Nothing more = inl refl
  by_line a (suc steps) ahead.Nothing more = by_found a (turn_at a s) more

  by_orders : (orders : List Stretch) → s.orders ≡ orders → MayMove (advance_by trace orders s)
  by_orders [] is = by_rotation is s.rotation
  by_orders (stretch.Tick ticks ∷ more) is = inr (inl (subst TicksNext (sym is) tt))
  by_orders (stretch.Steps a steps ∷ more) is = by_line a steps (ahead_of a s) more

  -- A move that isn't stuck moves the clock as it should.
  pub moves_clock : (advance trace s ≡ s → ⊥) → (NobodyCan trace s → Idle s) → (Idle s → NobodyCan trace s) → MovesClock trace s (advance trace s)
  moves_clock unstuck idle nobody = record {
    ticks = λ ticks more is. record {
      now = ap (λ (l : List Stretch). (advance_by trace l s).now) is;
      orders = ap (λ (l : List Stretch). (advance_by trace l s).orders) is;
      steps = ap (λ (l : List Stretch). (advance_by trace l s).steps) is;
    };
    rests = λ none cannot. rests none (idle cannot) (next_moment s) refl;
    alone = λ moved. ⊎_elim (λ same. absurd (moved same)) (λ may. ⊎_elim (λ ticks. inl ticks) (λ h. inr (h.0, nobody h.1)) may) (by_orders s.orders refl);
  }
    where
      rests : s.orders ≡ [] → Idle s → (found : Option ℕ) → next_moment s ≡ found → IsNextMoment s (advance trace s).now
      rests none free None is = absurd (unstuck (idle_move none free ∙ ap (λ (f : Option ℕ). at_moment f s) is))
      rests none free (Some m) is =
          let at = idle_move none free ∙ ap (λ (f : Option ℕ). at_moment f s) is in
          subst (IsNextMoment s) (sym (ap (λ (v : State). v.now) at)) (next_is s m is)

-- ---- the run

opens : (trace : Trace) → (state_at trace 0).now ≡ opening_moment
unfolding order.run opening
opens trace = refl

-- A clock that moves as it should doesn't go back.
never_back : (trace : Trace) (s u : State) → MovesClock trace s u → s.now ≤ u.now
never_back trace s u h = ⊎_elim
    (λ same. omega (arith, same))
    (λ moved. ⊎_elim (λ ticks. by_orders s.orders refl ticks) (λ idle. let next = h.rests idle.0 idle.1 in omega (arith, next.ahead)) (h.alone moved))
    (cases_eq u.now s.now)
  where
    by_orders : (orders : List Stretch) → s.orders ≡ orders → TicksNext s.orders → s.now ≤ u.now
    by_orders [] is ticks = absurd (subst TicksNext is ticks)
    by_orders (stretch.Tick n ∷ more) is ticks = omega (arith, (h.ticks n more is).now)
    by_orders (stretch.Steps who steps ∷ more) is ticks = absurd (subst TicksNext is ticks)

pub keeps_time : (trace : Trace) → IsLawful trace → StaysInRange trace → HasEnded trace → ClockIsRight trace
keeps_time trace lawful stays ended = record {
  first = opens trace;
  onward = λ moves. ⊎_elim
      (λ over. omega (arith, ap (λ (s : State). s.now) (run_stays trace moves (moves + 1) (opening trace) refl over)))
      (λ going. never_back trace (state_at trace moves) (state_at trace (moves + 1)) (moves_so moves going))
      (cases_Bool (is_ended (state_at trace moves)));
  moves = moves_so;
}
  where
    moves_so : (moves : ℕ) → is_ended (state_at trace moves) ≡ false → MovesClock trace (state_at trace moves) (state_at trace (moves + 1))
    moves_so moves going =
        let s = state_at trace moves in
        let next = run_last trace moves (moves + 1) (opening trace) refl going in
        let sound = stays.sound moves in
        subst (MovesClock trace s) (sym next)
        (moves_clock trace s (never_stuck trace ended.0 moves going)
        (λ nobody a. cannot_idle trace (facts trace lawful) s sound a (nobody a)) (λ free a. idle_cannot trace (facts trace lawful) s sound a (free a)))
