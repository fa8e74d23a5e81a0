-- What a teller has written and still keeps to be written, and the row that it makes.
use Rattle.std.proofs.Common.{◌≡◌, ℕ, ◌+◌, ◌-◌, ◌<◌, Bool, cond, nat_lt, List, [], ◌∷◌, ◌++◌, length, take, drop, Option, pos, sym, ◌∙◌, ap, ap₂, arith, append_assoc, length-append}
use Rattle.std.specs.Io.KnownBytes.{append_known}
use Rattle.std.proofs.Math.Seq.{take-append-add, take-append_seam}
use Rattle.std.proofs.lemmas.List.{take-append-le}
use Rattle.wbt_replay_order.proofs.Common.{GainsPart, domain_count, Trace, domains, StepEntry, State, seen, setting_of, bases_of, ending_of}
use Rattle.wbt_io.proofs.Told.{append_known-append}
use Rattle.wbt_forecast_rows.specs.Counts.{count_after, homes_of}
use Rattle.wbt_forecast_rows.specs.Forecast.{has_step, span, spans_from, totals_of}
use Rattle.wbt_forecast_rows.specs.Laws.{AreExact}
use Rattle.wbt_forecast_rows.specs.Rows.{exact_count, interval_of, interval_row}
use Rattle.wbt_forecast_rows.specs.Tally.{row_told, tallied}
use Rattle.wbt_forecast_rows.specs.Text.{ending_text, numbers_text, row_text}
use Rattle.wbt_forecast_rows.specs.declared.rows.IntervalRow.{IntervalRow}
use Rattle.wbt_forecast_rows.proofs.Going.{row_so}
use Rattle.wbt_forecast_run.specs.Run.{foretold, most_moves, state_after}
use Rattle.wbt_forecast.specs.Telling.{HasWritten, Keeps, rest_text, told_row}
use Rattle.wbt_forecast.specs.declared.teller.Teller.{Teller}
use Rattle.wbt_forecast.proofs.Telling.Laws.{Laws}
use Rattle.wbt_forecast.proofs.Telling.Spans.{last_lines, told_span, told_spans}

-- ---- what was written

-- What was written, what is kept to be written, and what is still told is this text.
pub record Wrote (whole rest text : List ℕ) (start held : Option (List ℕ)) : Type 0 where
  pub written : List ℕ
  pub held_is : held ≡ append_known start written
  pub told : written ++ (text ++ rest) ≡ whole

pub wrote : (trace : Trace) (every first moves : ℕ) (text : List ℕ) (start held : Option (List ℕ)) → HasWritten trace every first moves text start held
    → Wrote (foretold trace every) (rest_text trace every (state_after trace first) moves) text start held
wrote trace every first moves text start held w = record { written = w.written; held_is = w.held_is; told = w.told }

pub has_written : (trace : Trace) (every first moves : ℕ) (text : List ℕ) (start held : Option (List ℕ))
    → Wrote (foretold trace every) (rest_text trace every (state_after trace first) moves) text start held → HasWritten trace every first moves text start held
has_written trace every first moves text start held w = record { written = w.written; held_is = w.held_is; told = w.told }

module _ (whole rest text : List ℕ) (start held : Option (List ℕ)) (w : Wrote whole rest text start held) where
  -- a piece of what is still told is kept to be written
  pub wrote_more : (piece after more : List ℕ) → more ≡ text ++ piece → rest ≡ piece ++ after → Wrote whole after more start held
  wrote_more piece after more grown parts = record {
    written = w.written;
    held_is = w.held_is;
    told = ap (λ l. w.written ++ (l ++ after)) grown
        ∙ (ap (λ l. w.written ++ l) (append_assoc text piece after ∙ ap (λ l. text ++ l) (sym parts)) ∙ w.told);
  }

  -- what was kept is written
  pub wrote_all : (now : Option (List ℕ)) (none : List ℕ) → now ≡ append_known held text → none ≡ [] → Wrote whole rest none start now
  wrote_all now none sent gone = record {
    written = w.written ++ text;
    held_is = sent ∙ (ap (λ o. append_known o text) w.held_is ∙ append_known-append start w.written text);
    told = ap (λ l. (w.written ++ text) ++ (l ++ rest)) gone ∙ (append_assoc w.written text rest ∙ w.told);
  }

  -- A part was written where something is still told.
  pub part_before : 0 < length rest → GainsPart start held whole
  part_before some = (
    length w.written,
    (let long = ap (λ (l : List ℕ). length l) w.told in
        omega (arith, some, long, length-append w.written (text ++ rest), length-append text rest)),
    w.held_is ∙ ap (append_known start) (sym (take-append_seam w.written (text ++ rest)) ∙ ap (take (length w.written)) w.told),
  )

  -- and so where a part of what was kept was written
  pub part_of_it : (now : Option (List ℕ)) → GainsPart held now text → GainsPart start now whole
  part_of_it now part =
      let count : ℕ = part.0 in
      let less : count < length text = part.1 in
      let long = ap (λ (l : List ℕ). length l) w.told in
      let front : take count text ≡ take count (text ++ rest) = sym (take-append-le count text rest (omega (arith, less))) in (
        length w.written + count,
        omega (arith, less, long, length-append w.written (text ++ rest), length-append text rest),
        part.2
            ∙ (ap (λ o. append_known o (take count text)) w.held_is
            ∙ (append_known-append start w.written (take count text)
            ∙ ap (append_known start)
            (ap (λ l. w.written ++ l) front
            ∙ (sym (take-append-add w.written (text ++ rest) count) ∙ ap (take (length w.written + count)) w.told)))),
      )

-- ---- something is still told

-- the last lines have a byte at least
pub last_some : (s : State) → 0 < length (last_lines s)
last_some s =
    let word : List ℕ = 116 ∷ 111 ∷ 116 ∷ 97 ∷ 108 ∷ 115 ∷ [] in
    let line : List ℕ = numbers_text ((totals_of s).dirtied ∷ (totals_of s).cleaned ∷ []) ++ 10 ∷ [] in
    omega (arith, length-append (word ++ line) (ending_text (ending_of s)), length-append word line)

pub rest_some : (trace : Trace) (every : ℕ) (first : State) (moves : ℕ) → 0 < length (rest_text trace every first moves)
unfolding rest_text
rest_some trace every first moves =
    let last = last_some (state_after trace most_moves) in
    omega (arith, last, length-append (told_spans trace every (spans_from every (state_after trace) first moves (most_moves - moves))) (last_lines (state_after trace most_moves)))

-- ---- the row

module _ (trace : Trace) (laws : Laws trace) (every first n : ℕ) (t : Teller) (k : Keeps trace first n n t) (last : State) where
  abbrev at : (m : ℕ) → State
  at m = state_after trace m

  -- The row that the tallies make is that of the interval whose last state is another one, which differs in nothing that a row tells.
  pub row_is : (number : ℕ) → number ≡ interval_of every last → (at n).steps ≡ last.steps → (at n).cpus ≡ last.cpus → (at n).book ≡ last.book
      → (at n).domains ≡ last.domains → (at n).contexts ≡ last.contexts → told_row number t ≡ told_span trace every (span (at first) last)
  row_is number number_is steps cpus book domains_are contexts =
      let exact : AreExact trace (at first) last = λ d less.
      ap (λ (l : List StepEntry). count_after (homes_of trace) d (pos (exact_count trace (at first) d)) (drop (length (at first).steps) l)) (sym steps)
      ∙ (laws.counts.between first n k.begun d less ∙ ap (λ b. pos (domain_count (setting_of trace) b d)) book) in
      let interval = k.interval ∙ ap₂ (λ a b. tallied trace (at first) (record (at n) { steps = a; cpus = b })) steps cpus in
      let doms = ap (λ (s : State). s.domains) k.machine ∙ domains_are in
      let conts = ap (λ (s : State). s.contexts) k.machine ∙ contexts in
      let row : row_told number t.bases (seen t.machine).domains (seen t.machine).contexts t.interval ≡ interval_row trace every (at first) last =
      ap₂ (λ a b. row_told a b (seen t.machine).domains (seen t.machine).contexts t.interval) number_is k.bases
      ∙ (ap₂ (λ a b. row_told (interval_of every last) (bases_of trace (domains trace)) a b t.interval) doms conts
      ∙ (ap (row_told (interval_of every last) (bases_of trace (domains trace)) last.domains last.contexts) interval
      ∙ row_so trace every (at first) last exact)) in
      let test : nat_lt t.before t.counted ≡ has_step (span (at first) last) =
      ap₂ nat_lt k.before (k.counted ∙ ap (λ (l : List StepEntry). length l) steps) in
      ap₂ (λ (b : Bool) (r : IntervalRow). cond b (row_text r) []) test row
