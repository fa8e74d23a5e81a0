-- What a forecast still tells from so many moves on: the row of the interval that the clock leaves, or of the last one, and what follows.
use Rattle.std.proofs.Common.{◌≡◌, ◌≢◌, ℕ, zero, suc, ◌+◌, ◌-◌, ◌<◌, ◌==◌, Bool, true, false, cond, List, [], ◌∷◌, ◌++◌, refl, sym, ◌∙◌, ap, arith, append_assoc, append-nil, map, eq-eqb, ne_eqb}
use Rattle.std.specs.List.{filter, flat_map}
use Rattle.wbt_replay_order.proofs.Common.{Trace, State, ending_of}
use Rattle.wbt_forecast_rows.specs.Forecast.{Span, span, has_step, row_of_span, rows_of_spans, spans_from, totals_of}
use Rattle.wbt_forecast_rows.specs.Rows.{interval_of}
use Rattle.wbt_forecast_rows.specs.Text.{row_text, end_text, every_text}
use Rattle.wbt_forecast_run.specs.Run.{most_moves, state_after, forecast, foretold}
use Rattle.wbt_forecast.specs.Telling.{rest_text}

-- ---- intervals

module _ (every : ℕ) (state : ℕ → State) (first : State) (moves : ℕ) where
  -- what comes after a move, by whether it stays in the interval
  abbrev next_spans : (ahead : ℕ) (stays : Bool) → List Span
  next_spans ahead stays = elim stays as (λ _. List Span) [
    | true ↦ spans_from every state first (moves + 1) ahead
    | false ↦ span first (state moves) ∷ spans_from every state (state (moves + 1)) (moves + 1) ahead
  ]

  spans_next : (n ahead : ℕ) → n ≡ suc ahead
      → spans_from every state first moves n ≡ next_spans ahead (interval_of every (state (moves + 1)) == interval_of every (state moves))
  unfolding spans_from
  spans_next zero ahead is = absurd (omega (arith, is))
  spans_next (suc n) ahead is =
      let same : n ≡ ahead = omega (arith, is) in
      ap (λ (k : ℕ). next_spans k (interval_of every (state (moves + 1)) == interval_of every (state moves))) same

  pub spans_stay : (n ahead : ℕ) → n ≡ suc ahead → interval_of every (state (moves + 1)) ≡ interval_of every (state moves)
      → spans_from every state first moves n ≡ spans_from every state first (moves + 1) ahead
  spans_stay n ahead is same = spans_next n ahead is ∙ ap (next_spans ahead) (eq-eqb _ _ same)

  pub spans_leave : (n ahead : ℕ) → n ≡ suc ahead → interval_of every (state (moves + 1)) ≢ interval_of every (state moves)
      → spans_from every state first moves n ≡ span first (state moves) ∷ spans_from every state (state (moves + 1)) (moves + 1) ahead
  spans_leave n ahead is other = spans_next n ahead is ∙ ap (next_spans ahead) (ne_eqb _ _ other)

  pub spans_none : (n : ℕ) → n ≡ 0 → spans_from every state first moves n ≡ span first (state moves) ∷ []
  unfolding spans_from
  spans_none zero is = refl
  spans_none (suc n) is = absurd (omega (arith, is))

-- where the run is over, no interval comes after this one
pub spans_over : (every : ℕ) (state : ℕ → State) (first : State) (ahead moves : ℕ) → ((k : ℕ) → state (moves + k) ≡ state moves)
    → spans_from every state first moves ahead ≡ span first (state moves) ∷ []
spans_over every state first zero moves over = spans_none every state first moves 0 refl
spans_over every state first (suc ahead) moves over =
    spans_stay every state first moves (suc ahead) ahead refl (ap (interval_of every) (over 1))
    ∙ (spans_over every state first ahead (moves + 1) (λ k.
    let at : moves + 1 + k ≡ moves + (k + 1) = omega arith in
    ap state at ∙ (over (k + 1) ∙ sym (over 1)))
    ∙ ap (λ (s : State). span first s ∷ []) (over 1))

-- ---- their text

-- the text of the row of an interval, where a step was made in it
abbrev pub told_span : (trace : Trace) (every : ℕ) (interval : Span) → List ℕ
told_span trace every interval = cond (has_step interval) (row_text (row_of_span trace every interval)) []

-- of intervals, one after another
abbrev pub told_spans : (trace : Trace) (every : ℕ) (intervals : List Span) → List ℕ
told_spans trace every intervals = flat_map row_text (rows_of_spans trace every intervals)

-- of those in which a step was made
abbrev told_rows : (trace : Trace) (every : ℕ) (intervals : List Span) → List ℕ
told_rows trace every intervals = flat_map row_text (map (row_of_span trace every) intervals)

told_more : (trace : Trace) (every : ℕ) (interval : Span) (more : List Span)
    → told_spans trace every (interval ∷ more) ≡ told_span trace every interval ++ told_spans trace every more
told_more trace every interval more = by_test (has_step interval)
  where
    by_test : (b : Bool) → told_rows trace every (cond b (interval ∷ filter has_step more) (filter has_step more))
        ≡ cond b (row_text (row_of_span trace every interval)) [] ++ told_rows trace every (filter has_step more)
    by_test true = refl
    by_test false = refl

-- the last two lines
abbrev pub last_lines : (s : State) → List ℕ
last_lines s = end_text (totals_of s) (ending_of s)

module _ (trace : Trace) (every : ℕ) (first : State) (moves : ℕ) where
  rest_is : (intervals : List Span) → spans_from every (state_after trace) first moves (most_moves - moves) ≡ intervals
      → rest_text trace every first moves ≡ told_spans trace every intervals ++ last_lines (state_after trace most_moves)
  unfolding rest_text
  rest_is intervals is = ap (λ l. told_spans trace every l ++ last_lines (state_after trace most_moves)) is

  rest_next : (other : State) (intervals : List Span) → spans_from every (state_after trace) other (moves + 1) (most_moves - (moves + 1)) ≡ intervals
      → rest_text trace every other (moves + 1) ≡ told_spans trace every intervals ++ last_lines (state_after trace most_moves)
  unfolding rest_text
  rest_next other intervals is = ap (λ l. told_spans trace every l ++ last_lines (state_after trace most_moves)) is

  pub rest_stays : moves < most_moves → interval_of every (state_after trace (moves + 1)) ≡ interval_of every (state_after trace moves)
      → rest_text trace every first moves ≡ rest_text trace every first (moves + 1)
  rest_stays less same =
      let ahead = most_moves - (moves + 1) in
      let more = spans_stay every (state_after trace) first moves (most_moves - moves) ahead (omega (arith, less)) same in
      rest_is _ more ∙ sym (rest_next first _ refl)

  pub rest_leaves : moves < most_moves → interval_of every (state_after trace (moves + 1)) ≢ interval_of every (state_after trace moves)
      → rest_text trace every first moves ≡ told_span trace every (span first (state_after trace moves)) ++ rest_text trace every (state_after trace (moves + 1)) (moves + 1)
  rest_leaves less other =
      let ahead = most_moves - (moves + 1) in
      let here = span first (state_after trace moves) in
      let next = state_after trace (moves + 1) in
      let after = spans_from every (state_after trace) next (moves + 1) ahead in
      let more = spans_leave every (state_after trace) first moves (most_moves - moves) ahead (omega (arith, less)) other in
      rest_is (here ∷ after) more
      ∙ (ap (λ l. l ++ last_lines (state_after trace most_moves)) (told_more trace every here after)
      ∙ (append_assoc (told_span trace every here) (told_spans trace every after) (last_lines (state_after trace most_moves))
      ∙ ap (λ l. told_span trace every here ++ l) (sym (rest_next next after refl))))

  pub rest_ends : ((k : ℕ) → state_after trace (moves + k) ≡ state_after trace moves) → state_after trace most_moves ≡ state_after trace moves
      → rest_text trace every first moves ≡ told_span trace every (span first (state_after trace moves)) ++ last_lines (state_after trace moves)
  rest_ends over last =
      let here = span first (state_after trace moves) in
      rest_is (here ∷ []) (spans_over every (state_after trace) first (most_moves - moves) moves over)
      ∙ (ap (λ l. l ++ last_lines (state_after trace most_moves)) (told_more trace every here [] ∙ append-nil (told_span trace every here))
      ∙ ap (λ s. told_span trace every here ++ last_lines s) last)

  pub rest_at_last : moves ≡ most_moves
      → rest_text trace every first moves ≡ told_span trace every (span first (state_after trace moves)) ++ last_lines (state_after trace moves)
  rest_at_last is =
      let here = span first (state_after trace moves) in
      rest_is (here ∷ []) (spans_none every (state_after trace) first moves (most_moves - moves) (omega (arith, is)))
      ∙ (ap (λ l. l ++ last_lines (state_after trace most_moves)) (told_more trace every here [] ∙ append-nil (told_span trace every here))
      ∙ ap (λ n. told_span trace every here ++ last_lines (state_after trace n)) (sym is))

-- the first line, and what is told from the first move on
pub all_told : (trace : Trace) (every : ℕ) → every_text every ++ rest_text trace every (state_after trace 0) 0 ≡ foretold trace every
unfolding rest_text forecast
all_told trace every = refl

pub ending_is : (trace : Trace) (every : ℕ) → ending_of (state_after trace most_moves) ≡ (forecast trace every).ending
unfolding forecast
ending_is trace every = refl
