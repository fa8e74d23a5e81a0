-- What becomes of a teller in each turn of its loop.
use Rattle.std.proofs.Common.{◌≡◌, ◌≢◌, ◌⊎◌, inl, inr, ℕ, ◌+◌, ◌-◌, ◌/◌, ◌<◌, true, List, [], ◌++◌, Option, Some, None, refl, sym, ◌∙◌, ap, ap₂, arith, append-nil}
use Rattle.std.specs.Io.KnownBytes.{append_known}
use Rattle.wbt_replay_order.proofs.Common.{GainsPart, Trace, State, seen, is_ended, ending_of}
use Rattle.wbt_journal.specs.declared.journal.Ending.{Ending}
use Rattle.wbt_forecast_rows.specs.Forecast.{span, totals_of}
use Rattle.wbt_forecast_rows.specs.Rows.{interval_of}
use Rattle.wbt_forecast_rows.specs.Text.{end_text, every_text}
use Rattle.wbt_forecast_rows.specs.declared.forecast.Totals.{Totals}
use Rattle.wbt_replay_cut.specs.Cut.{all_of}
use Rattle.wbt_forecast_run.specs.Run.{forecast, foretold, moved, most_moves, state_after}
use Rattle.wbt_forecast.specs.Telling.{IsLeaving, IsOver, IsTelling, Keeps, rest_text, told_row}
use Rattle.wbt_forecast.specs.declared.teller.Teller.{Teller}
use Rattle.wbt_forecast_run.proofs.Runs.Clock.{clock_alone}
use Rattle.wbt_forecast_run.proofs.Runs.Ends.{next_state, stays_over}
use Rattle.wbt_forecast.proofs.Telling.Laws.{Laws}
use Rattle.wbt_forecast.proofs.Telling.Spans.{all_told, ending_is, last_lines, rest_at_last, rest_ends, rest_leaves, rest_stays, told_span}
use Rattle.wbt_forecast.proofs.Telling.Texts.{Wrote, has_written, part_before, rest_some, row_is, wrote, wrote_all, wrote_more}

-- ---- the first line

append_none : (held : Option (List ℕ)) → held ≡ append_known held []
append_none None = refl
append_none (Some bytes) = ap Some (sym (append-nil bytes))

pub tells_first : (trace : Trace) (every : ℕ) (held : Option (List ℕ)) (t : Teller) → Keeps trace 0 0 0 t → t.text.items ≡ every_text every
    → IsTelling trace every 0 held held t
tells_first trace every held t k text = record {
  few = omega arith;
  first = 0;
  mid = 0;
  keeps = k;
  wrote = record {
    written = [];
    held_is = append_none held;
    told = ap (λ l. l ++ rest_text trace every (state_after trace 0) 0) text ∙ all_told trace every;
  };
}

-- Nothing was written: it is a part of the forecast's text.
pub none_written : (trace : Trace) (every : ℕ) (held : Option (List ℕ)) → GainsPart held held (foretold trace every)
none_written trace every held =
    let w : Wrote (foretold trace every) (rest_text trace every (state_after trace 0) 0) (every_text every) held held =
    record { written = []; held_is = append_none held; told = all_told trace every } in
    part_before (foretold trace every) (rest_text trace every (state_after trace 0) 0) (every_text every) held held w (rest_some trace every (state_after trace 0) 0)

module _ (trace : Trace) (laws : Laws trace) (every : ℕ) where
  abbrev at : (n : ℕ) → State
  at n = state_after trace n

  abbrev rest : (first n : ℕ) → List ℕ
  rest first n = rest_text trace every (at first) n

  -- ---- a move that stays in the interval

  -- the teller after a move, and after what it keeps was counted in
  pub tells_on : (moves : ℕ) (start held : Option (List ℕ)) (t u : Teller) → moves < most_moves → (tells : IsTelling trace every moves start held t)
      → (mid : ℕ) → Keeps trace tells.first mid (moves + 1) u → u.text.items ≡ t.text.items → interval_of every (at (moves + 1)) ≡ interval_of every (at moves)
      → IsTelling trace every (moves + 1) start held u
  tells_on moves start held t u less tells mid k text same = record {
    few = omega (arith, less);
    first = tells.first;
    mid = mid;
    keeps = k;
    wrote = record {
      written = tells.wrote.written;
      held_is = tells.wrote.held_is;
      told = ap₂ (λ a b. tells.wrote.written ++ (a ++ b)) text (sym (rest_stays trace every (at tells.first) moves less same)) ∙ tells.wrote.told;
    };
  }

  -- a part of the forecast is written at each moment
  pub part_now : (moves : ℕ) (start held : Option (List ℕ)) (t : Teller) → IsTelling trace every moves start held t → GainsPart start held (foretold trace every)
  part_now moves start held t tells =
      part_before (foretold trace every) (rest tells.first moves) t.text.items start held
      (wrote trace every tells.first moves t.text.items start held tells.wrote) (rest_some trace every (at tells.first) moves)

  -- ---- a move that leaves the interval

  pub leaving : (moves number : ℕ) (start held : Option (List ℕ)) (t u : Teller) → moves < most_moves → (tells : IsTelling trace every moves start held t)
      → Keeps trace tells.first tells.mid (moves + 1) u → u.text.items ≡ t.text.items → number ≡ interval_of every (at moves)
      → interval_of every (at (moves + 1)) ≢ interval_of every (at moves) → IsLeaving trace every moves number start held u
  leaving moves number start held t u less tells k text number_is left = record {
    few = less;
    first = tells.first;
    mid = tells.mid;
    keeps = k;
    wrote = record {
      written = tells.wrote.written;
      held_is = tells.wrote.held_is;
      told = ap (λ l. tells.wrote.written ++ (l ++ rest tells.first moves)) text ∙ tells.wrote.told;
    };
    number_is = number_is;
    left = left;
  }

  pub part_leaving : (moves number : ℕ) (start held : Option (List ℕ)) (t : Teller) → IsLeaving trace every moves number start held t
      → GainsPart start held (foretold trace every)
  part_leaving moves number start held t leaves =
      part_before (foretold trace every) (rest leaves.first moves) t.text.items start held
      (wrote trace every leaves.first moves t.text.items start held leaves.wrote) (rest_some trace every (at leaves.first) moves)

  module _ (moves number : ℕ) (start held : Option (List ℕ)) (t : Teller) (leaves : IsLeaving trace every moves number start held t)
      (u : Teller) (k : Keeps trace leaves.first (moves + 1) (moves + 1) u) where
    moment_moves : (at (moves + 1)).now ≢ (at moves).now
    moment_moves same = leaves.left (ap (λ (n : ℕ). n / every) same)

    alone : record (at (moves + 1)) { now = (at moves).now; rotation = (at moves).rotation; orders = (at moves).orders; most = (at moves).most } ≡ at moves
    alone =
        let next : at (moves + 1) ≡ moved trace (at moves) = next_state trace moves (moves + 1) refl in
        let other : (moved trace (at moves)).now ≢ (at moves).now = λ same. moment_moves (ap (λ (s : State). s.now) next ∙ same) in
        ap (λ (s : State). record s { now = (at moves).now; rotation = (at moves).rotation; orders = (at moves).orders; most = (at moves).most }) next
        ∙ clock_alone trace (at moves) other

    row : told_row number u ≡ told_span trace every (span (at leaves.first) (at moves))
    row = row_is trace laws every leaves.first (moves + 1) u k (at moves) number leaves.number_is
        (ap (λ (s : State). s.steps) alone) (ap (λ (s : State). s.cpus) alone) (ap (λ (s : State). s.book) alone)
        (ap (λ (s : State). s.domains) alone) (ap (λ (s : State). s.contexts) alone)

    -- the row is kept to be written
    pub wrote_row : (text : List ℕ) → u.text.items ≡ t.text.items → text ≡ u.text.items ++ told_row number u
        → Wrote (foretold trace every) (rest (moves + 1) (moves + 1)) text start held
    wrote_row text same grown =
        wrote_more (foretold trace every) (rest leaves.first moves) t.text.items start held
        (wrote trace every leaves.first moves t.text.items start held leaves.wrote)
        (told_span trace every (span (at leaves.first) (at moves))) (rest (moves + 1) (moves + 1)) text
        (grown ∙ ap₂ (λ a b. a ++ b) same row)
        (rest_leaves trace every (at leaves.first) moves leaves.few leaves.left)

    -- the next interval begins
    pub tells_next : (v : Teller) (now : Option (List ℕ)) → Keeps trace (moves + 1) (moves + 1) (moves + 1) v
        → Wrote (foretold trace every) (rest (moves + 1) (moves + 1)) v.text.items start now → IsTelling trace every (moves + 1) start now v
    tells_next v now kept w = record {
      few = omega (arith, leaves.few);
      first = moves + 1;
      mid = moves + 1;
      keeps = kept;
      wrote = has_written trace every (moves + 1) (moves + 1) v.text.items start now w;
    }

  -- ---- the run is over

  module _ (moves : ℕ) (start held : Option (List ℕ)) (t : Teller) (tells : IsTelling trace every moves start held t) (over : IsOver moves (seen t.machine)) where
    over_at : (is_ended (at moves) ≡ true) ⊎ (moves ≡ most_moves)
    over_at = by_cause over
      where
        by_cause : (is_ended (seen t.machine) ≡ true) ⊎ (moves ≡ most_moves) → (is_ended (at moves) ≡ true) ⊎ (moves ≡ most_moves)
        by_cause (inl ended) = inl (sym (laws.cuts (all_of (at tells.mid)) (at moves) tells.keeps.within).ends ∙ (ap is_ended (sym tells.keeps.machine) ∙ ended))
        by_cause (inr all) = inr all

    last_is : at most_moves ≡ at moves
    last_is = by_cause over_at
      where
        by_cause : (is_ended (at moves) ≡ true) ⊎ (moves ≡ most_moves) → at most_moves ≡ at moves
        by_cause (inl ended) = stays_over trace moves (most_moves - moves) most_moves (omega (arith, tells.few)) ended
        by_cause (inr all) = ap at (sym all)

    rest_is : rest tells.first moves ≡ told_span trace every (span (at tells.first) (at moves)) ++ last_lines (at moves)
    rest_is = by_cause over_at
      where
        by_cause : (is_ended (at moves) ≡ true) ⊎ (moves ≡ most_moves)
            → rest tells.first moves ≡ told_span trace every (span (at tells.first) (at moves)) ++ last_lines (at moves)
        by_cause (inl ended) = rest_ends trace every (at tells.first) moves (λ k. stays_over trace moves k (moves + k) refl ended) last_is
        by_cause (inr all) = rest_at_last trace every (at tells.first) moves all

    module _ (number : ℕ) (u : Teller) (k : Keeps trace tells.first moves moves u) (number_is : number ≡ interval_of every (at moves)) where
      -- the last row is kept to be written
      pub wrote_last : (text : List ℕ) → u.text.items ≡ t.text.items → text ≡ u.text.items ++ told_row number u
          → Wrote (foretold trace every) (last_lines (at moves)) text start held
      wrote_last text same grown =
          wrote_more (foretold trace every) (rest tells.first moves) t.text.items start held
          (wrote trace every tells.first moves t.text.items start held tells.wrote)
          (told_span trace every (span (at tells.first) (at moves))) (last_lines (at moves)) text
          (grown ∙ ap₂ (λ a b. a ++ b) same (row_is trace laws every tells.first moves u k (at moves) number number_is refl refl refl refl refl))
          rest_is

      -- and the last lines
      pub wrote_end : (text more : List ℕ) (ending : Ending) (totals : Totals) → Wrote (foretold trace every) (last_lines (at moves)) text start held
          → more ≡ text ++ end_text totals ending → totals ≡ totals_of (at moves) → ending ≡ ending_of (at moves)
          → Wrote (foretold trace every) [] more start held
      wrote_end text more ending totals w grown totals_are ending_are =
          wrote_more (foretold trace every) (last_lines (at moves)) text start held w (last_lines (at moves)) [] more
          (grown ∙ ap₂ (λ a b. text ++ end_text a b) totals_are ending_are) (sym (append-nil (last_lines (at moves))))

    -- All is written.
    pub all_written : (text none : List ℕ) (now : Option (List ℕ)) → Wrote (foretold trace every) [] text start held → now ≡ append_known held text
        → now ≡ append_known start (foretold trace every)
    all_written text none now w sent =
        let all = wrote_all (foretold trace every) [] text start held w now [] sent refl in
        all.held_is ∙ ap (append_known start) (sym (append-nil all.written) ∙ all.told)

    -- how the machine has ended is how the run has
    pub ending_at : (u : Teller) → Keeps trace tells.first moves moves u → ending_of (seen u.machine) ≡ ending_of (at moves)
    ending_at u k = ap ending_of k.machine

    pub ending_told : ending_of (at moves) ≡ (forecast trace every).ending
    ending_told = ap ending_of (sym last_is) ∙ ending_is trace every
