-- Each count that a forecast's row tells is at most the bound beside it: the step relation follows the run.
use Rattle.std.proofs.Common.{◌≡◌, ℕ, zero, suc, ◌+◌, ◌-◌, ◌≤◌, ◌<◌, ◌==◌, max, ◌&&◌, Bool, true, false, cond, ℤ, pos, ◌+ℤ◌, List, [], ◌∷◌, ◌++◌, length, length-append, map, filter, drop, refl, sym, ◌∙◌, ap, subst, arith, ⊎_elim}
use Rattle.std.proofs.lemmas.Bool.{cases_Bool}
use Rattle.std.proofs.lemmas.List.{drop_all, drop-append-le}
use Rattle.wbt_replay_order.proofs.Common.{at_least_zero, Book, grant, Rule, domain_count, opening_keeps, Trace, Each, domains, numbers, change_in, StepEntry, extended, State, domain_of, setting_of, opening, advance, is_ended, is_full, base_of, Facts, Suits, Follows, Moves, silently, by, grants, fits_further, IsInRange}
use Rattle.wbt_grant.specs.Bound.{bound}
use Rattle.wbt_grant.specs.Kinds.{after}
use Rattle.wbt_grant.specs.State as throttle
use Rattle.wbt_grant.proofs.Bounding.{peak_bounds}
use Rattle.wbt_grant.proofs.Whole.{step_keeps}
use Rattle.wbt_replay_order.proofs.Facts.Facts.{facts}
use Rattle.wbt_replay_order.proofs.Facts.Lists.{either}
use Rattle.wbt_replay_order.proofs.Facts.Settings.{pair_of}
use Rattle.wbt_replay_order.proofs.Outset.Sound.{opening_sound, opening_room}
use Rattle.wbt_replay_path.proofs.Follow.Moving.{advance_moves}
use Rattle.wbt_replay_path.proofs.Follow.Opening.{opening_follows, setting_firsts}
use Rattle.wbt_replay_path.proofs.Follow.Whole.{fits_of}
use Rattle.wbt_replay_points.proofs.Claims.Counted.{same_bound}
use Rattle.wbt_forecast_rows.specs.Between.{gained, steps_between}
use Rattle.wbt_forecast_rows.specs.Counts.{homes_of, count_after, most_after}
use Rattle.wbt_forecast_rows.specs.Forecast.{Span, span, spans_from, has_step, row_of_span, rows_of_spans}
use Rattle.wbt_forecast_rows.specs.Rows.{exact_count, interval_of, domain_row}
use Rattle.wbt_forecast_rows.specs.declared.rows.DomainRow.{DomainRow}
use Rattle.wbt_forecast_rows.specs.declared.rows.IntervalRow.{IntervalRow}
use Rattle.wbt_forecast_run.specs.Claims.{IsBounded, AreBounded, TellsCounts, RowsAreBounded}
use Rattle.wbt_forecast_run.specs.Run.{most_moves, let_on, moved, state_after, forecast}
use Rattle.wbt_forecast_run.proofs.Bounds.Peaks.{moved_peaks, GrowsByOne, moved_grows}
use Rattle.wbt_forecast_run.proofs.Bounds.Setting.{roomy, roomy_takes, roomy_is, roomy_suits}
use Rattle.wbt_forecast_run.proofs.Counts.Exact.{counts_are_told}
use Rattle.wbt_forecast_run.proofs.Runs.Ends.{over_stays, going_moves, next_state}
use Rattle.wbt_forecast_run.proofs.Runs.Growing.{runs_tell_in_order}
use Rattle.wbt_forecast_run.proofs.Runs.Letting.{let_on_range, range_at}

-- ---- the run is followed

-- a state of the relation, by its rule, follows the run's
record IsFollowed (trace : Trace) (s : State) : Type 0 where
  state : throttle.State
  rule : Rule (roomy trace) state
  follows : Follows trace (roomy trace) s state

module _ (trace : Trace) (known : Facts trace) (suits : Suits trace (roomy trace)) where
  by_move : (s u : State) (t : throttle.State) → Rule (roomy trace) t → Moves trace (roomy trace) s.steps u t → IsFollowed trace u
  by_move s u t rule (silently same follows) = record { state = t; rule = rule; follows = follows }
  by_move s u t rule (by step plain allowed told follows) =
      record { state = after (roomy trace) step t; rule = step_keeps (roomy trace) step t suits.setting_is rule allowed; follows = follows }
  by_move s u t rule (grants w pages allowed same small follows) = record {
    state = after (roomy trace) (grant w pages) t;
    rule = step_keeps (roomy trace) (grant w pages) t suits.setting_is rule allowed;
    follows = follows;
  }

  let_followed : (s : State) → IsFollowed trace s → IsFollowed trace (let_on s)
  let_followed s h = either (IsFollowed trace) (is_full s && fits_further s) (extended s) s
      (λ is. record { state = h.state; rule = h.rule; follows = h.follows }) (λ no. h)

  advance_followed : (v : State) → IsInRange trace v → IsFollowed trace v → IsFollowed trace (advance trace v)
  advance_followed v range h =
      let fits = fits_of trace (roomy trace) v range.0 (roomy_takes trace v range.0) in
      by_move v (advance trace v) h.state h.rule (advance_moves trace (roomy trace) suits known h.state h.rule v fits h.follows)

  moved_followed : (s : State) → IsInRange trace s → IsFollowed trace s → IsFollowed trace (moved trace s)
  moved_followed s range h = ⊎_elim
      (λ over. subst (IsFollowed trace) (sym (over_stays trace s over)) h)
      (λ going. subst (IsFollowed trace) (sym (going_moves trace s going)) (advance_followed (let_on s) (let_on_range trace s range) (let_followed s h)))
      (cases_Bool (is_ended s))

  module _ (first : IsInRange trace (opening trace)) (start : IsFollowed trace (opening trace)) where
    followed_at : (n : ℕ) → IsFollowed trace (state_after trace n)
    unfolding state_after
    followed_at zero = start
    followed_at (suc n) = moved_followed (state_after trace n) (range_at trace known first n) (followed_at n)

-- ---- the bound of a domain

-- the bound that a row tells of a domain in a state
abbrev bound_at : (trace : Trace) (s : State) (d : ℕ) → ℕ
bound_at trace s d = base_of trace d + (domain_of d s).peak

exact_bounded : (trace : Trace) (s : State) → IsFollowed trace s → (d : ℕ) → d < domains trace → exact_count trace s d ≤ bound_at trace s d
exact_bounded trace s h d less =
    let few : domain_count (setting_of trace) h.state.book d ≤ bound (setting_of trace) h.state.peak d = peak_bounds (roomy trace) h.state h.rule d in
    let same = same_bound trace h.state.peak d in
    let peak = ap (λ (p : ℕ × ℕ). p.0) (h.follows.peak d less) in
    let book = ap (λ (b : Book). domain_count (setting_of trace) b d) h.follows.book in
    omega (arith, few, same, peak, book)

most_push : (homes : List ℕ) (d : ℕ) (count : ℤ) (xs : List StepEntry) (e : StepEntry)
    → most_after homes d count (xs ++ e ∷ []) ≡ max (most_after homes d count xs) (at_least_zero (count_after homes d count (xs ++ e ∷ [])))
most_push homes d count [] e = omega arith
most_push homes d count (x ∷ xs) e =
    let rest = most_push homes d (count +ℤ change_in homes d x) xs e in
    omega (arith, rest)

gained_none : {A : Type 0} (xs : List A) → gained xs xs ≡ []
gained_none xs = drop_all (length xs) xs (omega arith)

module _ (trace : Trace) (tells : TellsCounts trace) (followed : (n : ℕ) → IsFollowed trace (state_after trace n)) (d : ℕ) (less : d < domains trace) where
  -- the greatest count between two moments, which is that of the second one or was there before
  most_bounded : (k m n : ℕ) → n ≡ m + k
      → most_after (homes_of trace) d (pos (exact_count trace (state_after trace m) d)) (steps_between (state_after trace m) (state_after trace n))
      ≤ bound_at trace (state_after trace n) d
  most_bounded zero m n is =
      let same : n ≡ m = omega (arith, is) in
      let none : most_after (homes_of trace) d (pos (exact_count trace (state_after trace m) d))
      (steps_between (state_after trace m) (state_after trace n)) ≡ 0 =
      ap (λ (i : ℕ). most_after (homes_of trace) d (pos (exact_count trace (state_after trace m) d))
      (steps_between (state_after trace m) (state_after trace i))) same
      ∙ ap (most_after (homes_of trace) d (pos (exact_count trace (state_after trace m) d))) (gained_none (state_after trace m).steps) in
      omega (arith, none)
  most_bounded (suc k) m n is =
      let s = state_after trace m in
      let u = state_after trace (m + k) in
      let v = state_after trace n in
      let start : ℤ = pos (exact_count trace s d) in
      let before = most_bounded k m (m + k) refl in
      let next = next_state trace (m + k) n (omega (arith, is)) in
      let grows : GrowsByOne u v = subst (GrowsByOne u) (sym next) (moved_grows trace u) in
      let peaks : (domain_of d u).peak ≤ (domain_of d v).peak =
      subst (λ (w : State). (domain_of d u).peak ≤ (domain_of d w).peak) (sym next) (moved_peaks trace u d) in
      ⊎_elim
      (λ same.
      let stays = ap (λ (l : List StepEntry). most_after (homes_of trace) d start (gained s.steps l)) same in
      omega (arith, before, stays, peaks))
      (λ one.
      let e = one.0 in
      let after_s = (runs_tell_in_order trace).after m (m + k) (omega arith) in
      let long : length s.steps ≤ length u.steps = grown_long s.steps u.steps after_s.steps in
      let more : gained s.steps v.steps ≡ gained s.steps u.steps ++ e ∷ [] =
      ap (drop (length s.steps)) one.1 ∙ drop-append-le (length s.steps) u.steps (e ∷ []) long in
      let greatest = ap (most_after (homes_of trace) d start) more ∙ most_push (homes_of trace) d start (gained s.steps u.steps) e in
      let exact = tells.between m n (omega (arith, is)) d less in
      let here : at_least_zero (count_after (homes_of trace) d start (gained s.steps u.steps ++ e ∷ [])) ≡ exact_count trace v d =
      ap at_least_zero (ap (count_after (homes_of trace) d start) (sym more) ∙ exact) in
      let bounded = exact_bounded trace v (followed n) d less in
      omega (arith, before, greatest, here, bounded, peaks))
      grows
    where
      grown_long : {A : Type 0} (xs ys : List A) → xs ++ gained xs ys ≡ ys → length xs ≤ length ys
      grown_long {A} xs ys is = omega (arith, ap (λ (l : List A). length l) is, length-append xs (gained xs ys))

-- ---- rows

-- an interval between two moments of the run
record IsBetween (trace : Trace) (i : Span) : Type 0 where
  first : ℕ
  last : ℕ
  order : first ≤ last
  is : i ≡ span (state_after trace first) (state_after trace last)

module _ (trace : Trace) (every : ℕ) where
  spans_between : (ahead first moves : ℕ) → first ≤ moves
      → Each (IsBetween trace) (spans_from every (state_after trace) (state_after trace first) moves ahead)
  unfolding spans_from
  spans_between zero first moves order = (record { first = first; last = moves; order = order; is = refl }, tt)
  spans_between (suc ahead) first moves order =
      by_test (interval_of every (state_after trace (moves + 1)) == interval_of every (state_after trace moves))
      (spans_between ahead first (moves + 1) (omega (arith, order)))
      (spans_between ahead (moves + 1) (moves + 1) (omega arith))
    where
      by_test : (b : Bool) → Each (IsBetween trace) (spans_from every (state_after trace) (state_after trace first) (moves + 1) ahead)
          → Each (IsBetween trace) (spans_from every (state_after trace) (state_after trace (moves + 1)) (moves + 1) ahead)
          → Each (IsBetween trace) (elim b as (λ _. List Span) [
            | true ↦ spans_from every (state_after trace) (state_after trace first) (moves + 1) ahead
            | false ↦ span (state_after trace first) (state_after trace moves) ∷ spans_from every (state_after trace) (state_after trace (moves + 1))
                (moves + 1) ahead
          ])
      by_test true same leaves = same
      by_test false same leaves = (record { first = first; last = moves; order = order; is = refl }, leaves)

  -- of those intervals that are told
  each_row : (P : IntervalRow → Type 0) (is : List Span) → Each (IsBetween trace) is
      → ((i : Span) → IsBetween trace i → P (row_of_span trace every i))
      → Each P (rows_of_spans trace every is)
  each_row P [] all each = tt
  each_row P (i ∷ is) all each = by_test (has_step i) (each_row P is all.1 each)
    where
      by_test : (b : Bool) → Each P (rows_of_spans trace every is)
          → Each P (map (row_of_span trace every) (cond b (i ∷ filter has_step is) (filter has_step is)))
      by_test true rest = (each i all.0, rest)
      by_test false rest = rest

each_number : (P : DomainRow → Type 0) (f : ℕ → DomainRow) (count from : ℕ) → ((d : ℕ) → d < from + count → P (f d)) → Each P (map f (numbers from count))
each_number P f zero from each = tt
each_number P f (suc count) from each = (each from (omega arith), each_number P f count (from + 1) (λ d less. each d (omega (arith, less))))

module _ (trace : Trace) (tells : TellsCounts trace) (followed : (n : ℕ) → IsFollowed trace (state_after trace n)) where
  span_bounded : (every : ℕ) (i : Span) → IsBetween trace i → AreBounded (row_of_span trace every i)
  span_bounded every i h = subst (λ (j : Span). AreBounded (row_of_span trace every j)) (sym h.is)
      (each_number IsBounded (domain_row trace (state_after trace h.first) (state_after trace h.last)) (domains trace) 0
      (λ d less.
      let inside : d < domains trace = omega (arith, less) in (
        exact_bounded trace (state_after trace h.last) (followed h.last) d inside,
        most_bounded trace tells followed d inside (h.last - h.first) h.first h.last (omega (arith, h.order)),
      )))

forecast_bounded : (trace : Trace) (every : ℕ)
    → Each AreBounded (rows_of_spans trace every (spans_from every (state_after trace) (state_after trace 0) 0 most_moves))
    → Each AreBounded (forecast trace every).rows
unfolding forecast
forecast_bounded trace every h = h

pub rows_are_bounded : RowsAreBounded
rows_are_bounded = λ trace lawful every.
    let known = facts trace lawful in
    let suits = roomy_suits trace lawful in
    let first : IsInRange trace (opening trace) = (opening_sound trace lawful, opening_room trace) in
    let start : IsFollowed trace (opening trace) = record {
      state = throttle.opening (roomy trace);
      rule = opening_keeps (roomy trace) (roomy_is trace lawful);
      follows = opening_follows trace (roomy trace) suits (setting_firsts trace) (λ w less. pair_of trace lawful w less);
    } in
    let followed : (n : ℕ) → IsFollowed trace (state_after trace n) = λ n. followed_at trace known suits first start n in
    forecast_bounded trace every
    (each_row trace every AreBounded (spans_from every (state_after trace) (state_after trace 0) 0 most_moves)
    (spans_between trace every most_moves 0 0 (omega arith))
    (span_bounded trace (counts_are_told trace lawful) followed every))
