-- Rows that lead through a text: what they say, and where reading ends.
use Rattle.std.proofs.Common.{◌≡◌, ℕ, ◌+◌, List, [], ◌∷◌, ◌++◌, length, Result, Ok, Err, refl, sym, ◌∙◌, ap, subst, append_assoc, inl, inr}
use Rattle.std.proofs.lemmas.Grind.{flat_map-append}
use Rattle.std.proofs.lemmas.List.{append-nil}
use Rattle.wbt_text.specs.Reading.{Lead, HasAnswer}
use Rattle.wbt_journal.specs.declared.journal.Ending.{Ending}
use Rattle.wbt_journal.specs.declared.journal.Journal.{Journal}
use Rattle.wbt_journal.specs.declared.journal.Left.{Left}
use Rattle.wbt_journal_reader.specs.declared.builder.Builder.{Builder}
use Rattle.wbt_journal_reader.specs.declared.builder.Place.{Place}
use Rattle.wbt_journal_reader.specs.declared.builder.Place.TheVariants as place
use Rattle.wbt_journal_reader.specs.declared.read.JournalFault.{JournalFault}
use Rattle.wbt_journal_reader.specs.declared.read.JournalFault.TheVariants.{BadLine}
use Rattle.wbt_journal_reader.specs.declared.row.Row.{Row}
use Rattle.wbt_journal.specs.declared.timer.TimerEntry.{TimerEntry}
use Rattle.wbt_journal.specs.Each.{Each}
use Rattle.wbt_journal.specs.Line.{Line, line_text, lines_text}
use Rattle.wbt_journal.specs.PlainJournal.{IsPlainJournal}
use Rattle.wbt_journal_reader.specs.FirstBad.{AreLines}
use Rattle.wbt_journal_reader.specs.Reading.{journals, end_at}
use Rattle.wbt_journal_reader.specs.Rebuilding.{start}
use Rattle.wbt_journal_reader.specs.Rows.{row_lines, IsPlainRow, IsRow}
use Rattle.wbt_journal.specs.Text.{journal_text}
use Rattle.wbt_journal.specs.Told.{Told as ToldValue}
use Rattle.wbt_journal_reader.proofs.Lines.{row_without}
use Rattle.wbt_journal_reader.proofs.Plain.{journal_of, lines_of, lines_are, IsFormed, is_plain}
use Rattle.wbt_journal_reader.proofs.Runs.{Runs}
use Rattle.wbt_journal_reader.proofs.Stages.{Stage, begun, in_timer, in_part, in_read, in_count, in_left, at_census, at_totals, at_end, state_of, rows_of, Good, step}

abbrev pub rows_text : (rs : List Row) → List ℕ
rows_text rs = lines_text (lines_of rs)

pub texts_both : (ls ms : List Line) → lines_text (ls ++ ms) ≡ lines_text ls ++ lines_text ms
texts_both ls ms = flat_map-append line_text ls ms

pub rows_both : (qs rs : List Row) → rows_text (qs ++ rs) ≡ rows_text qs ++ rows_text rs
rows_both qs rs = ap lines_text (flat_map-append row_lines qs rs) ∙ texts_both (lines_of qs) (lines_of rs)

-- a row's text is its own, a line feed, and that of those after it
pub first_text : (first : List ℕ) (r : Row) (rs : List Row) → IsRow first r → rows_text (r ∷ rs) ≡ first ++ 10 ∷ rows_text rs
first_text first r rs is = texts_both (row_lines r) (lines_of rs) ∙ ap (λ (t : List ℕ). t ++ rows_text rs) (sym is.is) ∙ append_assoc first (10 ∷ []) (rows_text rs)

-- ---- what rows say that lead through a text

pub record Told (rs : List Row) (old : Builder) (text : List ℕ) (new : Builder) (rest : List ℕ) : Type 0 where
  pub runs : Runs rs old new
  pub plain : Each IsPlainRow rs
  pub formed : Each IsFormed rs
  pub is : text ≡ rows_text rs ++ rest
  pub lines : (n : ℕ) → length rs ≡ n → AreLines n (rows_text rs)

pub told_by : (rs : List Row) (old : Builder) (text : List ℕ) (new : Builder) (rest : List ℕ) → Lead journals rs old text new rest → Told rs old text new rest
told_by [] old text new rest lead = record { runs = lead.0; plain = tt; formed = tt; is = lead.1; lines = λ n at. subst (λ (k : ℕ). AreLines k []) at refl }
told_by (r ∷ rs) old text new rest lead =
    let on = told_by rs lead.2 lead.1 new rest lead.6 in
    let here = first_text lead.0 r rs lead.4 in
    record {
      runs = (lead.2, lead.5, on.runs);
      plain = (lead.4.plain, on.plain);
      formed = (lead.4.form, on.formed);
      is = lead.3 ∙ ap (λ (t : List ℕ). lead.0 ++ 10 ∷ t) on.is ∙ sym (append_assoc lead.0 (10 ∷ rows_text rs) rest) ∙ ap (λ (t : List ℕ). t ++ rest) (sym here);
      lines = λ n at. subst (λ (k : ℕ). AreLines k (rows_text (r ∷ rs))) at (lead.0, rows_text rs, here, row_without lead.0 r lead.4, on.lines (length rs) refl);
    }

-- ---- the stage that rows lead to

pub record Reached (s : Stage) (rs : List Row) (new : Builder) : Type 0 where
  pub to : Stage
  pub is : state_of to ≡ new
  pub rows : rows_of to ≡ rows_of s ++ rs
  pub good : Good to

pub reached : (s : Stage) (rs : List Row) (new : Builder) → Good s → Runs rs (state_of s) new → Each IsPlainRow rs → Each IsFormed rs → Reached s rs new
reached s [] new good runs plain formed = record { to = s; is = runs; rows = sym (append-nil (rows_of s)); good = good }
reached s (r ∷ rs) new good runs plain formed =
    let next = step s r runs.0 good runs.1 plain.0 formed.0 in
    let on = reached next.to rs new next.good (subst (λ (c : Builder). Runs rs c new) (sym next.is) runs.2) plain.1 formed.1 in
    record { to = on.to; is = on.is; rows = on.rows ∙ ap (λ (l : List Row). l ++ rs) next.rows ∙ append_assoc (rows_of s) (r ∷ []) rs; good = on.good }

-- ---- the end

pub record AtEnd (s : Stage) : Type 0 where
  pub timer : List TimerEntry
  pub parts : List (List ToldValue)
  pub left : List Left
  pub ended : Ending
  pub is : s ≡ at_end timer parts left ended

pub at_end_is : (s : Stage) → (state_of s).place ≡ place.End → AtEnd s
at_end_is begun is = cc
at_end_is (in_timer timer) is = cc
at_end_is (in_part timer parts here) is = cc
at_end_is (in_read timer parts here global cgroup) is = cc
at_end_is (in_count timer parts here global cgroup context count) is = cc
at_end_is (in_left timer parts left next) is = cc
at_end_is (at_census timer parts left) is = cc
at_end_is (at_totals timer parts left) is = cc
at_end_is (at_end timer parts left ended) is = record { timer = timer; parts = parts; left = left; ended = ended; is = refl }

ok_err : (j : Journal) (e : JournalFault) → Ok j ≡ Err e → ⊥
ok_err j e is = cc

ok_once : (j k : Journal) (a : Result Journal JournalFault) → Ok j ≡ a → a ≡ Ok k → j ≡ k
ok_once j k a is other = cc (is, other)

pub whole_at : (where_now : Place) (count : ℕ) (b : Builder) (j : Journal) → Ok j ≡ end_at where_now count b → (where_now ≡ place.End) × (b.journal ≡ j)
whole_at place.End count b j is = (refl, ok_once b.journal j (Ok j) (sym is) refl)
whole_at other count b j is = absurd (ok_err j (BadLine (count + 1)) is)

pub text_of_rows : (timer : List TimerEntry) (parts : List (List ToldValue)) (left : List Left) (ended : Ending) → rows_text (rows_of (at_end timer parts left ended)) ≡ journal_text (journal_of timer parts left ended)
text_of_rows timer parts left ended = ap lines_text (lines_are timer parts left ended)

-- rows that lead from the start to the end are a plain journal's
pub told_whole : (rs : List Row) (new : Builder) → Runs rs start new → Each IsPlainRow rs → Each IsFormed rs → new.place ≡ place.End → IsPlainJournal new.journal × (journal_text new.journal ≡ rows_text rs)
told_whole rs new runs plain formed ends =
    let r = reached begun rs new tt runs plain formed in
    let e = at_end_is r.to (ap (λ (c : Builder). c.place) r.is ∙ ends) in
    let state : state_of (at_end e.timer e.parts e.left e.ended) ≡ new = ap state_of (sym e.is) ∙ r.is in
    let good : Good (at_end e.timer e.parts e.left e.ended) = subst Good e.is r.good in
    let rows : rows_of (at_end e.timer e.parts e.left e.ended) ≡ rs = ap rows_of (sym e.is) ∙ r.rows in
    let whole = is_plain e.timer e.parts e.left e.ended good (subst (λ (qs : List Row). Each IsFormed qs) (sym rows) formed) in
    let same : journal_of e.timer e.parts e.left e.ended ≡ new.journal = ap (λ (c : Builder). c.journal) state in (
      subst IsPlainJournal same whole,
      ap journal_text (sym same) ∙ sym (text_of_rows e.timer e.parts e.left e.ended) ∙ ap rows_text rows,
    )

-- a text that tells a journal is that of a plain one
pub sound : (text : List ℕ) (j : Journal) → HasAnswer journals start text (Ok j) → IsPlainJournal j × (journal_text j ≡ text)
sound text j (rs, b, rest, lead, inl whole) =
    let ends = whole_at b.place (length rs) b j whole.1 in
    let told = told_by rs start text b rest lead in
    let plain = told_whole rs b told.runs told.plain told.formed ends.0 in (
      subst IsPlainJournal ends.1 plain.0,
      ap journal_text (sym ends.1) ∙ plain.1 ∙ sym (append-nil (rows_text rs)) ∙ ap (λ (t : List ℕ). rows_text rs ++ t) (sym whole.0) ∙ sym told.is,
    )
sound text j (rs, b, rest, lead, inr (inl none)) = absurd (ok_err j (BadLine (length rs + 1)) none.2)
sound text j (rs, b, rest, lead, inr (inr off)) = absurd (ok_err j (BadLine (length rs + 1)) off.7)
