-- What is read to the end is a plain journal, and the rows are its lines.
use Rattle.std.proofs.Common.{◌≡◌, ℕ, ◌+◌, false, List, [], ◌∷◌, ◌++◌, map, flat_map, Option, Some, None, refl, sym, ◌∙◌, ap, subst, append_assoc}
use Rattle.std.proofs.lemmas.Grind.{flat_map-append}
use Rattle.wbt_journal.specs.declared.entry.DomainLine.{DomainLine}
use Rattle.wbt_counter.specs.declared.counter.Count.{Count}
use Rattle.wbt_journal.specs.declared.journal.Ending.{Ending}
use Rattle.wbt_journal.specs.declared.journal.Journal.{Journal}
use Rattle.wbt_journal.specs.declared.journal.Left.{Left}
use Rattle.wbt_journal_reader.specs.declared.row.Decided.{Decided}
use Rattle.wbt_journal_reader.specs.declared.row.Row.{Row}
use Rattle.wbt_journal_reader.specs.declared.row.Row.TheVariants as row
use Rattle.wbt_journal.specs.declared.timer.TimerEntry.{TimerEntry}
use Rattle.wbt_journal.specs.declared.word.Word.TheVariants as word
use Rattle.wbt_journal.specs.Each.{Each}
use Rattle.wbt_journal.specs.Forms.{HasForm}
use Rattle.wbt_journal.specs.Line.{Line, line, num}
use Rattle.wbt_journal.specs.Lines.{timer_line, left_line, told_lines, cpu_lines}
use Rattle.wbt_journal.specs.Plain.{IsPlainPart}
use Rattle.wbt_journal.specs.PlainJournal.{IsPlainJournal}
use Rattle.wbt_journal_reader.specs.Rows.{row_lines, check_of}
use Rattle.wbt_journal.specs.Text.{journal_lines}
use Rattle.wbt_journal.specs.Told.{Told, wrote, checked}
use Rattle.wbt_journal_reader.proofs.Parts.{part_of, told_again, names_again}
use Rattle.wbt_journal_reader.proofs.Stages.{decided_of, told_rows, part_rows, parts_rows, timer_rows, cpus_rows, left_rows, census_row, totals_row, at_end, rows_of, Good, IsUnmarked, AreUnmarked}

-- the journal of these
abbrev pub journal_of : (timer : List TimerEntry) (parts : List (List Told)) (left : List Left) (ended : Ending) → Journal
journal_of timer parts left ended = record { timer = timer; cpus = map part_of parts; steps = []; bases = []; homes = []; left = left; strict = []; ending = ended }

-- ---- lines of rows

abbrev pub lines_of : (rs : List Row) → List Line
lines_of rs = flat_map row_lines rs

lines_both : (qs rs : List Row) → lines_of (qs ++ rs) ≡ lines_of qs ++ lines_of rs
lines_both qs rs = flat_map-append row_lines qs rs

check_lines_are : (global : DomainLine) (cgroup : Option DomainLine) (count : Count) (decided : Decided) → lines_of (told_rows (checked (check_of global cgroup count decided))) ≡ told_lines (checked (check_of global cgroup count decided))
check_lines_are global None count decided = refl
check_lines_are global (Some read) count decided = refl

told_lines_are : (t : Told) → lines_of (told_rows t) ≡ told_lines t
told_lines_are (wrote t p b) = refl
told_lines_are (checked c) = check_lines_are c.global c.cgroup c.count (decided_of c)
told_lines_are other = refl

all_lines_are : (ts : List Told) → lines_of (flat_map told_rows ts) ≡ flat_map told_lines ts
all_lines_are [] = refl
all_lines_are (t ∷ ts) = lines_both (told_rows t) (flat_map told_rows ts) ∙ (λ i. told_lines_are t i ++ all_lines_are ts i)

cpu_lines_are : (cpu : ℕ) (parts : List (List Told)) → lines_of (parts_rows cpu parts) ≡ cpu_lines cpu (map part_of parts)
cpu_lines_are cpu [] = refl
cpu_lines_are cpu (ts ∷ parts) =
    lines_both (part_rows cpu ts) (parts_rows (cpu + 1) parts)
    ∙ (λ i. line word.Cpu (num cpu ∷ []) ∷ (all_lines_are ts ∙ ap (flat_map told_lines) (sym (told_again ts))) i ++ cpu_lines_are (cpu + 1) parts i)

timer_lines_are : (timer : List TimerEntry) → lines_of (map row.Timed timer) ≡ map timer_line timer
timer_lines_are [] = refl
timer_lines_are (e ∷ more) = ap (λ (l : List Line). timer_line e ∷ l) (timer_lines_are more)

left_lines_are : (lefts : List Left) → lines_of (map row.Left lefts) ≡ map left_line lefts
left_lines_are [] = refl
left_lines_are (l ∷ more) = ap (λ (ls : List Line). left_line l ∷ ls) (left_lines_are more)

-- the rows of a whole journal, part after part
pub apart : (timer : List TimerEntry) (parts : List (List Told)) (left : List Left) (c t e : Row)
    → ((left_rows timer parts left ++ c ∷ []) ++ t ∷ []) ++ e ∷ [] ≡ timer_rows timer ++ (parts_rows 0 parts ++ (map row.Left left ++ c ∷ t ∷ e ∷ []))
apart timer parts left c t e =
    append_assoc (left_rows timer parts left ++ c ∷ []) (t ∷ []) (e ∷ [])
    ∙ append_assoc (left_rows timer parts left) (c ∷ []) (t ∷ e ∷ [])
    ∙ append_assoc (cpus_rows timer parts) (map row.Left left) (c ∷ t ∷ e ∷ [])
    ∙ append_assoc (timer_rows timer) (parts_rows 0 parts) (map row.Left left ++ c ∷ t ∷ e ∷ [])

pub lines_are : (timer : List TimerEntry) (parts : List (List Told)) (left : List Left) (ended : Ending)
    → lines_of (rows_of (at_end timer parts left ended)) ≡ journal_lines (journal_of timer parts left ended)
unfolding journal_lines
lines_are timer parts left ended =
    let ends : List Row = census_row left ∷ totals_row parts ∷ row.End ended ∷ [] in
    ap lines_of (apart timer parts left (census_row left) (totals_row parts) (row.End ended))
    ∙ lines_both (timer_rows timer) (parts_rows 0 parts ++ (map row.Left left ++ ends))
    ∙ (λ i. line word.Timer [] ∷ timer_lines_are timer i
    ++ (lines_both (parts_rows 0 parts) (map row.Left left ++ ends) ∙ (λ k. cpu_lines_are 0 parts k ++ (lines_both (map row.Left left) ends ∙ (λ m. left_lines_are left m ++ lines_of ends)) k)) i)

-- ---- what holds of each row's lines holds of each line, and the other way

pub each_append : {A : Type 0} (P : A → Type 0) (xs ys : List A) → Each P xs → Each P ys → Each P (xs ++ ys)
each_append P [] ys p q = q
each_append P (x ∷ xs) ys p q = (p.0, each_append P xs ys p.1 q)

each_split : {A : Type 0} (P : A → Type 0) (xs ys : List A) → Each P (xs ++ ys) → Each P xs × Each P ys
each_split P [] ys p = (tt, p)
each_split P (x ∷ xs) ys p = let more = each_split P xs ys p.1 in ((p.0, more.0), more.1)

abbrev pub IsFormed : (r : Row) → Type 0
IsFormed r = Each HasForm (row_lines r)

pub formed_lines : (rs : List Row) → Each IsFormed rs → Each HasForm (lines_of rs)
formed_lines [] p = tt
formed_lines (r ∷ rs) p = each_append HasForm (row_lines r) (lines_of rs) p.0 (formed_lines rs p.1)

pub lines_formed : (rs : List Row) → Each HasForm (lines_of rs) → Each IsFormed rs
lines_formed [] p = tt
lines_formed (r ∷ rs) p = let parts = each_split HasForm (row_lines r) (lines_of rs) p in (parts.0, lines_formed rs parts.1)

-- ---- a plain journal

plain_parts : (parts : List (List Told)) → AreUnmarked parts → Each (IsPlainPart (λ check. false)) (map part_of parts)
plain_parts [] all = tt
plain_parts (ts ∷ parts) all =
    (record { names = names_again ts; marks = subst (λ (us : List Told). Each IsUnmarked us) (sym (told_again ts)) all.0 }, plain_parts parts all.1)

pub is_plain : (timer : List TimerEntry) (parts : List (List Told)) (left : List Left) (ended : Ending) → Good (at_end timer parts left ended) → Each IsFormed (rows_of (at_end timer parts left ended))
    → IsPlainJournal (journal_of timer parts left ended)
is_plain timer parts left ended good formed = record {
  steps = refl;
  bases = refl;
  homes = refl;
  strict = refl;
  parts = plain_parts parts good.0;
  left = good.1;
  forms = subst (λ (ls : List Line). Each HasForm ls) (lines_are timer parts left ended) (formed_lines (rows_of (at_end timer parts left ended)) formed);
}
