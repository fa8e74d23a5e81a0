-- A run obeys the trace's order lines: shown from its end back to its beginning.
use Rattle.std.proofs.Common.{◌≡◌, ℕ, zero, suc, ◌+◌, ◌<◌, ◌≤◌, Bool, true, ◌||◌, ◌&&◌, eqb, List, [], ◌∷◌, ◌++◌, length, map, slice_get, Some, ⊎_elim, refl, sym, ◌∙◌, ap, subst, arith}
use Rattle.std.proofs.lemmas.Bool.{cases_Bool, cases_lt}
use Rattle.std.proofs.lemmas.List.{append-nil, append_assoc, length-append}
use Rattle.wbt_replay_order.proofs.Common.{StepEntry, IsLawful, Trace, State, Actor, Stretch, HasEnded, opening, stretch_of, ahead_of, chance_by, chance_of, turn_at, begin_or_drop, follow, advance_by, advance, is_ended, with_orders, most_moves, state_at, last_state, journal_of, Ending, Facts, StaysInRange, Sound}
use Rattle.wbt_replay_moves.specs.declared.state.Stretch.TheVariants as stretch
use Rattle.wbt_replay_order.specs.Definition.Order as order
use Rattle.wbt_replay_order.specs.declared.chance.Ahead.{Ahead}
use Rattle.wbt_replay_order.specs.declared.chance.Ahead.TheVariants as ahead
use Rattle.wbt_replay_order.specs.declared.chance.Chance.{Chance}
use Rattle.wbt_replay_order.specs.declared.chance.Chance.TheVariants as chance
use Rattle.wbt_replay_order.proofs.Facts.Facts.{facts}
use Rattle.wbt_replay_order.proofs.Growth.Grown.{advance_grows}
use Rattle.wbt_replay_order.proofs.Growth.Runs.{run_last, run_ended}
use Rattle.wbt_replay_turns.specs.Laws.{EndsWell}
use Rattle.wbt_replay_turns.specs.Lines.{number_of, IsMadeBy, ComesTo, was, never, Stops, idle, halted, ended, Fulfils, Obeys, ObeysOrder}
use Rattle.wbt_replay_turns.proofs.Able.{idle_cannot}
use Rattle.wbt_replay_turns.proofs.Clock.{nothing_ahead}
use Rattle.wbt_replay_turns.proofs.Lines.Left.{orders_moved}
use Rattle.wbt_replay_turns.proofs.Lines.Moves as moves
use Rattle.wbt_replay_turns.proofs.Lines.Moves.{OfLine, of_line}
use Rattle.wbt_replay_turns.proofs.Runs.{run_further}

-- ---- lists of steps

at_seam : (before : List StepEntry) (e : StepEntry) (rest : List StepEntry) → slice_get (before ++ e ∷ rest) (length before) ≡ Some e
at_seam [] e rest = refl
at_seam (x ∷ before) e rest = at_seam before e rest

pub journal_steps : (trace : Trace) → (journal_of trace).steps ≡ (last_state trace).steps
unfolding journal_of
journal_steps trace = refl

-- ---- a line's actor that can do nothing

-- Then the line goes away.
idle_drops : (trace : Trace) (a : Actor) (steps : ℕ) (more : List Stretch) (s : State) → s.orders ≡ stretch.Steps a steps ∷ more → chance_of a s ≡ chance.Nothing
    → advance trace s ≡ with_orders more s
idle_drops trace a steps more s is none =
    let ahead_none = nothing_ahead s a none in
    let turn_none : turn_at a s ≡ chance.Nothing = sym (ap (λ (n : Ahead). chance_by n a s) ahead_none) ∙ none in
    ap (λ (l : List Stretch). advance_by trace l s) is ∙ (ap (λ (n : Ahead). follow trace a steps n more s) ahead_none ∙ by_steps steps turn_none)
  where
    by_steps : (n : ℕ) → turn_at a s ≡ chance.Nothing → follow trace a n ahead.Nothing more s ≡ with_orders more s
    by_steps zero turn = refl
    by_steps (suc n) turn = ap (λ (f : Chance). begin_or_drop trace a f more s) turn

-- ---- the end of a run

module _ (trace : Trace) (is_over : is_ended (last_state trace) ≡ true) where
  over : (orders : List Stretch) (from : ℕ) → length (last_state trace).steps ≡ from → (1 ≤ length orders → 1 ≤ length (last_state trace).orders) → Obeys trace orders from
  over [] from at some = tt
  over (stretch.Tick ticks ∷ more) from at some =
      let left = some (omega arith) in
      (never (record { steps_made = at; some_left = left }), over more from at (λ n. left))
  over (stretch.Steps a steps ∷ more) from at some =
      let left = some (omega arith) in
      let none : length (last_state trace).steps ≡ from + 0 = omega (arith, at) in (
        never (record { steps_made = at; some_left = left }),
        (
          0,
          record {
            within = omega arith;
            by = λ k past before. absurd (omega (arith, past, before));
            stops = λ less. ended (record { steps_made = none; some_left = left });
          },
          over more (from + 0) none (λ n. left),
        ),
      )

  -- what holds of a state of the run: its steps are the first of all, from them on the run obeys the lines that are left, and where the
  -- first line's actor can do nothing, the others
  pub record Goes (s : State) : Type 0 where
    pub rest : List StepEntry
    pub first : (last_state trace).steps ≡ s.steps ++ rest
    pub obeys : Obeys trace s.orders (length s.steps)
    pub dropped : (a : Actor) (steps : ℕ) (more : List Stretch) → s.orders ≡ stretch.Steps a steps ∷ more → chance_of a s ≡ chance.Nothing → Obeys trace more (length s.steps)

  goes_over : (s : State) → last_state trace ≡ s → Goes s
  goes_over s same =
      let at : length (last_state trace).steps ≡ length s.steps = ap (λ (t : State). length t.steps) same in
      let lines : length (last_state trace).orders ≡ length s.orders = ap (λ (t : State). length t.orders) same in
      record {
        rest = [];
        first = ap (λ (t : State). t.steps) same ∙ sym (append-nil s.steps);
        obeys = over s.orders (length s.steps) at (λ some. omega (arith, some, lines));
        dropped = λ a steps more is none. over more (length s.steps) at (λ some. omega (arith, lines, ap (λ (l : List Stretch). length l) is));
      }

  -- ---- a move before it

  module _ (all : Facts trace) (m : ℕ) (sound : Sound trace (state_at trace m)) (h : Ending trace (state_at trace m)) where
    abbrev here : State
    here = state_at trace m

    module _ (k : Ending trace (advance trace here)) (later : Goes (advance trace here)) where
      abbrev there : State
      there = advance trace here

      -- the steps so far are the first of all
      steps_first : (rest : List StepEntry) × ((last_state trace).steps ≡ here.steps ++ rest)
      steps_first =
          let grew = advance_grows trace here in
          ⊎_elim (λ same. (later.rest, later.first ∙ ap (λ (l : List StepEntry). l ++ later.rest) same))
          (λ one. (one.entry ∷ later.rest, later.first ∙ (ap (λ (l : List StepEntry). l ++ later.rest) one.is ∙ append_assoc here.steps (one.entry ∷ []) later.rest)))
          grew.1

      -- the next step is that of an actor
      next_by : (a : Actor) (e : StepEntry) → there.steps ≡ here.steps ++ e ∷ [] → e.who ≡ number_of trace a → IsMadeBy trace a (length here.steps)
      next_by a e is by =
          let all = journal_steps trace ∙ (later.first ∙ (ap (λ (l : List StepEntry). l ++ later.rest) is ∙ append_assoc here.steps (e ∷ []) later.rest)) in
          record { step = e; at = ap (λ (l : List StepEntry). slice_get l (length here.steps)) all ∙ at_seam here.steps e later.rest; by = by }

      -- what the lines that are left then say
      later_obeys : (orders : List Stretch) (from : ℕ) → there.orders ≡ orders → length there.steps ≡ from → Obeys trace orders from
      later_obeys orders from is at = subst (λ (l : List Stretch). Obeys trace l from) is (subst (Obeys trace there.orders) at later.obeys)

      came : (orders : List Stretch) → here.orders ≡ orders → ComesTo trace orders (length here.steps)
      came orders is = was m (record { orders_left = is; steps_made = refl })

      silently : there.steps ≡ here.steps → length there.steps ≡ length here.steps
      silently same = ap (λ (l : List StepEntry). length l) same

      -- the line goes away without a step, for a reason
      none_made : (a : Actor) (steps : ℕ) (more : List Stretch) → here.orders ≡ stretch.Steps a steps ∷ more → (0 < steps → Stops trace a more (length here.steps))
          → Obeys trace more (length here.steps) → Obeys trace (stretch.Steps a steps ∷ more) (length here.steps)
      none_made a steps more is why behind =
          let none : length here.steps ≡ length here.steps + 0 = omega arith in (
            came (stretch.Steps a steps ∷ more) is,
            (
              0,
              record {
                within = omega arith;
                by = λ k past before. absurd (omega (arith, past, before));
                stops = λ some. subst (Stops trace a more) none (why some);
              },
              subst (Obeys trace more) none behind,
            ),
          )

      -- the line asks for one step less
      one_made : (a : Actor) (left : ℕ) (more : List Stretch) → here.orders ≡ stretch.Steps a (suc left) ∷ more → IsMadeBy trace a (length here.steps)
          → Obeys trace (stretch.Steps a left ∷ more) (length here.steps + 1) → Obeys trace (stretch.Steps a (suc left) ∷ more) (length here.steps)
      one_made a left more is by behind =
          let made : ℕ = behind.1.0 in
          let f : Fulfils trace a left more (length here.steps + 1) made = behind.1.1 in
          let further : length here.steps + 1 + made ≡ length here.steps + (made + 1) = omega arith in (
            came (stretch.Steps a (suc left) ∷ more) is,
            (
              made + 1,
              record {
                within = omega (arith, f.within);
                by = λ k past before. ⊎_elim
                    (λ after. f.by k (omega (arith, after)) (omega (arith, before)))
                    (λ first. let same : length here.steps ≡ k = omega (arith, past, first) in subst (IsMadeBy trace a) same by)
                    (cases_lt (length here.steps) k);
                stops = λ less. subst (Stops trace a more) further (f.stops (omega (arith, less)));
              },
              subst (Obeys trace more) further behind.1.2,
            ),
          )

      spent_over : there.spent ≡ true → last_state trace ≡ there → (a : Actor) (steps left : ℕ) (more : List Stretch) → there.orders ≡ stretch.Steps a left ∷ more
          → there.steps ≡ here.steps → Obeys trace (stretch.Steps a steps ∷ more) (length here.steps)
      spent_over spent same a steps left more lines silent =
          over (stretch.Steps a steps ∷ more) (length here.steps) (ap (λ (t : State). length t.steps) same ∙ silently silent)
          (λ some. omega (arith, ap (λ (t : State). length t.orders) same, ap (λ (l : List Stretch). length l) lines))

      by_line : (a : Actor) (steps : ℕ) (more : List Stretch) → here.orders ≡ stretch.Steps a steps ∷ more → (there.spent ≡ true → last_state trace ≡ there)
          → OfLine trace a steps more here there → Obeys trace (stretch.Steps a steps ∷ more) (length here.steps)
      by_line a steps more is ends (moves.quiet lines silent) = later_obeys (stretch.Steps a steps ∷ more) (length here.steps) lines (silently silent)
      by_line a steps more is ends (moves.one left asks lines e makes by) =
          let count : length there.steps ≡ length here.steps + 1 = ap (λ (l : List StepEntry). length l) makes ∙ length-append here.steps (e ∷ []) in
          subst (λ (n : ℕ). Obeys trace (stretch.Steps a n ∷ more) (length here.steps)) (sym asks)
          (one_made a left more (is ∙ ap (λ (n : ℕ). stretch.Steps a n ∷ more) asks) (next_by a e makes by)
          (later_obeys (stretch.Steps a left ∷ more) (length here.steps + 1) lines count))
      by_line a steps more is ends (moves.done asks lines silent) =
          none_made a steps more is (λ some. absurd (omega (arith, some, asks))) (later_obeys more (length here.steps) lines (silently silent))
      by_line a steps more is ends (moves.idle left asks none lines silent) =
          none_made a steps more is
          (λ some. idle m left (record { orders_left = is ∙ ap (λ (n : ℕ). stretch.Steps a n ∷ more) asks; steps_made = refl }) (idle_cannot trace all here sound a none))
          (later_obeys more (length here.steps) lines (silently silent))
      by_line a steps more is ends (moves.halted left asks may none lines silent) =
          none_made a steps more is
          (λ some. halted m left (record { orders_left = is ∙ ap (λ (n : ℕ). stretch.Steps a n ∷ more) asks; steps_made = refl }) may)
          (subst (Obeys trace more) (silently silent) (later.dropped a left more lines none))
      by_line a steps more is ends (moves.spent left over_now lines silent) = spent_over over_now (ends over_now) a steps left more lines silent

      by_orders : (orders : List Stretch) → here.orders ≡ orders → (there.spent ≡ true → last_state trace ≡ there) → Obeys trace orders (length here.steps)
      by_orders [] is ends = tt
      by_orders (stretch.Tick ticks ∷ more) is ends =
          let ticked = ap (λ (l : List Stretch). advance_by trace l here) is in (
            came (stretch.Tick ticks ∷ more) is,
            later_obeys more (length here.steps) (ap (λ (t : State). t.orders) ticked) (ap (λ (t : State). length t.steps) ticked),
          )
      by_orders (stretch.Steps a steps ∷ more) is ends = by_line a steps more is ends (of_line trace a more here sound.holds.cpus.many h steps is k)

      goes_before : (there.spent ≡ true → last_state trace ≡ there) → Goes here
      goes_before ends = record {
        rest = steps_first.0;
        first = steps_first.1;
        obeys = by_orders here.orders refl ends;
        dropped = λ a steps more is none.
            let drops = idle_drops trace a steps more here is none in
            later_obeys more (length here.steps) (ap (λ (t : State). t.orders) drops) (ap (λ (t : State). length t.steps) drops);
      }

-- ---- the run

module _ (trace : Trace) (all : Facts trace) (is_over : is_ended (last_state trace) ≡ true) (sound : (m : ℕ) → Sound trace (state_at trace m))
    (h : (m : ℕ) → Ending trace (state_at trace m)) (most : ℕ) (last : last_state trace ≡ state_at trace most) where
  -- a state that has ended is the last
  ended_last : (m d : ℕ) → most ≡ m + d → is_ended (state_at trace m) ≡ true → last_state trace ≡ state_at trace m
  ended_last m d is over = last ∙ (run_further trace m most d (opening trace) is ∙ run_ended trace d (state_at trace m) over)

  spent_ends : (s : State) → s.spent ≡ true → is_ended s ≡ true
  spent_ends s is = ap (λ (b : Bool). b || (eqb s.stopped (length s.cpus) || (eqb s.running 0 && eqb s.working 0))) is

  goes_at : (d m : ℕ) → most ≡ m + d → Goes trace is_over (state_at trace m)
  goes_at zero m is =
      let same : most ≡ m = omega (arith, is) in
      goes_over trace is_over (state_at trace m) (last ∙ ap (λ (n : ℕ). state_at trace n) same)
  goes_at (suc d) m is = ⊎_elim
      (λ over. goes_over trace is_over (state_at trace m) (ended_last m (suc d) is over))
      (λ going.
      let next : state_at trace (m + 1) ≡ advance trace (state_at trace m) = run_last trace m (m + 1) (opening trace) refl going in
      let behind : most ≡ m + 1 + d = omega (arith, is) in
      goes_before trace is_over all m (sound m) (h m) (subst (Ending trace) next (h (m + 1))) (subst (Goes trace is_over) next (goes_at d (m + 1) behind))
      (λ spent.
      let over : is_ended (state_at trace (m + 1)) ≡ true = ap is_ended next ∙ spent_ends (advance trace (state_at trace m)) spent in
      ended_last (m + 1) d behind over ∙ next))
      (cases_Bool (is_ended (state_at trace m)))

opens : (trace : Trace) → (state_at trace 0).orders ≡ map (stretch_of trace) trace.order
unfolding order.run opening
opens trace = refl

opens_steps : (trace : Trace) → length (state_at trace 0).steps ≡ 0
unfolding order.run opening
opens_steps trace = refl

pub obeys_order : (trace : Trace) → IsLawful trace → StaysInRange trace → HasEnded trace → EndsWell trace → ObeysOrder trace
obeys_order trace lawful stays ends h =
    let whole : most_moves ≡ 0 + most_moves = omega arith in
    let goes = goes_at trace (facts trace lawful) ends.0 stays.sound h most_moves refl most_moves 0 whole in
    record {
      first = opens trace;
      moves = orders_moved trace;
      steps = subst (λ (l : List Stretch). Obeys trace l 0) (opens trace) (subst (Obeys trace (state_at trace 0).orders) (opens_steps trace) goes.obeys);
    }
