-- The run ends: each move leaves less to be done, counting all steps that it may still be allowed.
use Rattle.std.proofs.Common.{◌≡◌, ℕ, zero, suc, ◌+◌, ◌-◌, ◌*◌, ◌^◌, ◌≤◌, Bool, true, false, leb, cond, ◌&&◌, ◌||◌, length, refl, sym, ◌∙◌, ap, subst, arith, ⊎_elim}
use Rattle.std.proofs.lemmas.Bool.{and_parts, cases_Bool}
use Rattle.std.proofs.lemmas.Bool.Decides.{nat_tests}
use Rattle.wbt_replay_order.proofs.Common.{MOST_STEPS, IsLawful, Trace, extended, State, opening, advance, is_ended, is_full, work_left, Ending, Facts, fits_further, most_ever, IsInRange}
use Rattle.wbt_replay_order.proofs.Facts.Facts.{facts}
use Rattle.wbt_replay_order.proofs.Facts.Lists.{either}
use Rattle.wbt_replay_order.proofs.Growth.Most.{most_kept}
use Rattle.wbt_replay_order.proofs.Outset.Sound.{opening_sound, opening_room}
use Rattle.wbt_replay_ends.proofs.Ends.Opening.{opening_kept, opening_work}
use Rattle.wbt_replay_ends.proofs.Ends.Runs.{moves_ahead}
use Rattle.wbt_forecast_run.specs.Claims.{RunsEnd}
use Rattle.wbt_forecast_run.specs.Run.{most_moves, let_on, moved, state_after}
use Rattle.wbt_forecast_run.proofs.Runs.Letting.{let_on_range, moved_range}

-- ---- one move

-- a run that has ended stays as it is
pub over_stays : (trace : Trace) (s : State) → is_ended s ≡ true → moved trace s ≡ s
over_stays trace s over = ap (λ (b : Bool). cond b s (advance trace (let_on s))) over

pub going_moves : (trace : Trace) (s : State) → is_ended s ≡ false → moved trace s ≡ advance trace (let_on s)
going_moves trace s going = ap (λ (b : Bool). cond b s (advance trace (let_on s))) going

-- whether a run has ended doesn't depend on how many steps it may make
pub ended_let : (s : State) → is_ended (let_on s) ≡ is_ended s
ended_let s = either (λ (u : State). is_ended u ≡ is_ended s) (is_full s && fits_further s) (extended s) s (λ is. refl) (λ no. refl)

unspent : (spent over : Bool) → (spent || over) ≡ false → spent ≡ false
unspent true over is = absurd (cc is)
unspent false over is = refl

pub let_ending : (trace : Trace) (s : State) → is_ended s ≡ false → Ending trace s → Ending trace (let_on s)
let_ending trace s going h = either (Ending trace) (is_full s && fits_further s) (extended s) s
    (λ is. record {
      paid = h.paid;
      timer_paid = h.timer_paid;
      paced = h.paced;
      spent = λ spent. absurd (let not = unspent s.spent _ going in cc (sym not ∙ spent));
    })
    (λ no. h)

-- ---- what is left

-- what is left to be done, with all steps that the run may ever be allowed
abbrev pub ever_left : (s : State) → ℕ
ever_left s = work_left s + 16 * (most_ever - s.most)

is_within : (n m : ℕ) → leb n m ≡ true → n ≤ m
is_within n m e = grind (arith, nat_tests)

pub fits_ever : (s : State) → fits_further s ≡ true → s.most + MOST_STEPS ≤ most_ever
fits_ever s fits = is_within (s.most + MOST_STEPS) most_ever (and_parts _ _ fits).0

extended_left : (s : State) → length s.steps ≤ s.most → s.most + MOST_STEPS ≤ most_ever → ever_left (extended s) ≡ ever_left s
unfolding work_left
extended_left s few fits = omega (arith, few, fits)

let_left : (s : State) → length s.steps ≤ s.most → ever_left (let_on s) ≡ ever_left s
let_left s few = either (λ (u : State). ever_left u ≡ ever_left s) (is_full s && fits_further s) (extended s) s
    (λ is. extended_left s few (fits_ever s (and_parts (is_full s) (fits_further s) is).1))
    (λ no. refl)

-- a state in range with what is kept for the end
abbrev pub IsGoing : (trace : Trace) (s : State) → Type 0
IsGoing trace s = IsInRange trace s × Ending trace s

module _ (trace : Trace) (known : Facts trace) where
  advance_less : (v : State) → IsGoing trace v → is_ended v ≡ false → (ever_left (advance trace v) + 1 ≤ ever_left v) × Ending trace (advance trace v)
  advance_less v h going =
      let ahead = moves_ahead trace known v h.0.0 h.1 going in
      (omega (arith, ahead.less, most_kept trace v), ahead.kept)

  -- Each move keeps what is kept for the end, and leaves less to be done.
  move_less : (s : State) → IsGoing trace s → is_ended s ≡ false → (ever_left (moved trace s) + 1 ≤ ever_left s) × IsGoing trace (moved trace s)
  move_less s h going =
      let v = let_on s in
      let less = advance_less v (let_on_range trace s h.0, let_ending trace s going h.1) (ended_let s ∙ going) in
      let same = going_moves trace s going in (
        omega (arith, less.0, let_left s h.0.0.holds.few, ap ever_left same),
        (moved_range trace known s h.0, subst (Ending trace) (sym same) less.1),
      )

  pub going_on : (s : State) → IsGoing trace s → IsGoing trace (moved trace s)
  going_on s h = ⊎_elim
      (λ over. subst (IsGoing trace) (sym (over_stays trace s over)) h)
      (λ going. (move_less s h going).1)
      (cases_Bool (is_ended s))

-- ---- the run

pub next_state : (trace : Trace) (m n : ℕ) → n ≡ m + 1 → state_after trace n ≡ moved trace (state_after trace m)
unfolding state_after
next_state trace m zero is = absurd (omega (arith, is))
next_state trace m (suc n) is = let same : n ≡ m = omega (arith, is) in ap (λ (k : ℕ). moved trace (state_after trace k)) same

pub first_state : (trace : Trace) → state_after trace 0 ≡ opening trace
unfolding state_after
first_state trace = refl

-- A run that has ended makes no further moves.
pub stays_over : (trace : Trace) (m k n : ℕ) → n ≡ m + k → is_ended (state_after trace m) ≡ true → state_after trace n ≡ state_after trace m
stays_over trace m zero n is over = let same : n ≡ m = omega (arith, is) in ap (state_after trace) same
stays_over trace m (suc k) n is over =
    let before = stays_over trace m k (m + k) refl over in
    next_state trace (m + k) n (omega (arith, is))
    ∙ (over_stays trace (state_after trace (m + k)) (ap is_ended before ∙ over) ∙ before)

module _ (trace : Trace) (known : Facts trace) (first : IsGoing trace (opening trace)) where
  pub going_at : (moves : ℕ) → IsGoing trace (state_after trace moves)
  unfolding state_after
  going_at zero = first
  going_at (suc moves) = going_on trace known (state_after trace moves) (going_at moves)

  ends_after : (k m n : ℕ) → n ≡ m + k → ever_left (state_after trace m) ≤ k → is_ended (state_after trace n) ≡ true
  ends_after zero m n is few = ⊎_elim
      (λ over. ap is_ended (stays_over trace m 0 n is over) ∙ over)
      (λ going. let less = (move_less trace known (state_after trace m) (going_at m) going).0 in absurd (omega (arith, less, few)))
      (cases_Bool (is_ended (state_after trace m)))
  ends_after (suc k) m n is few = ⊎_elim
      (λ over. ap is_ended (stays_over trace m (suc k) n is over) ∙ over)
      (λ going.
      let less = (move_less trace known (state_after trace m) (going_at m) going).0 in
      let next = ap ever_left (next_state trace m (m + 1) refl) in
      ends_after k (m + 1) n (omega (arith, is)) (omega (arith, less, next, few)))
      (cases_Bool (is_ended (state_after trace m)))

-- the moves that a run makes at most
abbrev pub moves_needed : ℕ
moves_needed = 2 ^ 45

pub opening_going : (trace : Trace) → IsLawful trace → IsGoing trace (opening trace)
opening_going trace lawful = ((opening_sound trace lawful, opening_room trace), opening_kept trace)

opening_left : (trace : Trace) → Facts trace → ever_left (state_after trace 0) ≤ moves_needed
opening_left trace known = let work = opening_work trace known in omega (arith, work, ap ever_left (first_state trace))

pub ends_in_time : (trace : Trace) → IsLawful trace → is_ended (state_after trace moves_needed) ≡ true
ends_in_time trace lawful =
    let known = facts trace lawful in
    ends_after trace known (opening_going trace lawful) moves_needed 0 moves_needed (omega arith) (opening_left trace known)

pub runs_end : RunsEnd
runs_end = λ trace lawful.
    let over = ends_in_time trace lawful in
    ap is_ended (stays_over trace moves_needed (most_moves - moves_needed) most_moves (omega arith) over) ∙ over
