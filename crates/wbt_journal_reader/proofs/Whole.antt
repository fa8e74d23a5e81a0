-- The text of a plain journal tells that journal.
use Rattle.std.proofs.Common.{◌≡◌, ℕ, ◌+◌, false, List, [], ◌∷◌, ◌++◌, map, flat_map, Option, Some, None, Result, Ok, refl, sym, ◌∙◌, ap, subst, inl}
use Rattle.std.proofs.lemmas.List.{append-nil}
use Rattle.wbt_text.specs.Reading.{Lead, HasAnswer}
use Rattle.wbt_journal.specs.declared.entry.CpuJournal.{CpuJournal}
use Rattle.wbt_journal.specs.declared.entry.DomainLine.{DomainLine}
use Rattle.wbt_counter.specs.declared.counter.Count.{Count}
use Rattle.wbt_journal.specs.declared.entry.Entry.TheVariants as entry
use Rattle.wbt_journal.specs.declared.field.Field.TheVariants.{Name}
use Rattle.wbt_journal.specs.declared.journal.Journal.{Journal}
use Rattle.wbt_journal.specs.declared.journal.Left.{Left}
use Rattle.wbt_journal_reader.specs.declared.builder.Builder.{Builder}
use Rattle.wbt_journal_reader.specs.declared.read.JournalFault.{JournalFault}
use Rattle.wbt_journal_reader.specs.declared.row.Decided.{Decided}
use Rattle.wbt_journal_reader.specs.declared.row.Row.{Row}
use Rattle.wbt_journal_reader.specs.declared.row.Row.TheVariants as row
use Rattle.wbt_journal.specs.declared.timer.TimerEntry.{TimerEntry}
use Rattle.wbt_journal.specs.declared.timer.TimerEntry.TheVariants as timed
use Rattle.wbt_journal.specs.Each.{Each}
use Rattle.wbt_journal_reader.specs.Fields.{spaced}
use Rattle.wbt_journal.specs.Forms.{HasForm}
use Rattle.wbt_journal.specs.Leaves.{LeftFrom}
use Rattle.wbt_journal.specs.Line.{Line, line_text, lines_text}
use Rattle.wbt_journal.specs.Plain.{IsPlainPart}
use Rattle.wbt_journal.specs.PlainJournal.{IsPlainJournal}
use Rattle.wbt_journal_reader.specs.Reading.{journals}
use Rattle.wbt_journal_reader.specs.Rebuilding.{start}
use Rattle.wbt_journal_reader.specs.Rows.{row_lines, IsPlainRow, IsRow, check_of}
use Rattle.wbt_journal.specs.Text.{journal_lines, journal_text}
use Rattle.wbt_journal.specs.Told.{Told, checked, told, NamesInOrder}
use Rattle.wbt_journal.proofs.OnePart.{back}
use Rattle.wbt_journal_reader.proofs.Lines.{line_is}
use Rattle.wbt_journal_reader.proofs.Parts.{part_of}
use Rattle.wbt_journal_reader.proofs.Plain.{journal_of, lines_of, lines_are, apart, each_append, IsFormed, lines_formed}
use Rattle.wbt_journal_reader.proofs.Runs.{Runs, whole_rows, whole_runs}
use Rattle.wbt_journal_reader.proofs.Stages.{decided_of, told_rows, part_rows, parts_rows, timer_rows, census_row, totals_row, at_end, state_of, IsUnmarked}
use Rattle.wbt_journal_reader.proofs.Texts.{rows_text, first_text}

-- ---- a row's own text

pub record Spelled (r : Row) : Type 0 where
  pub text : List ℕ
  pub is : IsRow text r

spell_line : (r : Row) (l : Line) → row_lines r ≡ l ∷ [] → IsPlainRow r → Each HasForm (row_lines r) → Spelled r
spell_line r l is plain form = record {
  text = spaced (Name l.word) l.fields;
  is = record { is = sym (line_is l) ∙ sym (append-nil (line_text l)) ∙ ap lines_text (sym is); plain = plain; form = form };
}

spell : (r : Row) → IsPlainRow r → Each HasForm (row_lines r) → Spelled r
spell (row.Timed (timed.Limits d now l)) plain form = spell_line _ _ refl plain form
spell (row.Timed (timed.Period d k)) plain form = spell_line _ _ refl plain form
spell (row.Entry (entry.Check place)) plain form = absurd plain
spell (row.Entry (entry.Est place)) plain form = absurd plain
spell (row.Entry other) plain form = spell_line (row.Entry other) _ refl plain form
spell other plain form = spell_line other _ refl plain form

-- rows that are taken lead through their text
pub lead_of : (rs : List Row) (old new : Builder) → Runs rs old new → Each IsPlainRow rs → Each IsFormed rs → Lead journals rs old (rows_text rs) new []
lead_of [] old new runs plain formed = (runs, refl)
lead_of (r ∷ rs) old new runs plain formed =
    let s = spell r plain.0 formed.0 in (s.text, rows_text rs, runs.0, first_text s.text r rs s.is, s.is, runs.1, lead_of rs runs.0 new runs.2 plain.1 formed.1)

-- ---- the rows of a plain journal

part_again : (p : CpuJournal) → NamesInOrder p → part_of (told p) ≡ p
part_again p names = let b = back p.checks p.estimates 0 0 p.entries names in (λ i. record { entries = b.entries i; checks = b.checks i; estimates = b.estimates i })

parts_again : (cpus : List CpuJournal) → Each (IsPlainPart (λ check. false)) cpus → map part_of (map told cpus) ≡ cpus
parts_again [] all = refl
parts_again (p ∷ ps) all = (λ i. part_again p all.0.names i ∷ parts_again ps all.1 i)

check_plain : (global : DomainLine) (cgroup : Option DomainLine) (count : Count) (decided : Decided) → decided.decision.exceeded ≡ false → Each IsPlainRow (told_rows (checked (check_of global cgroup count decided)))
check_plain global None count decided is = (tt, (tt, (is, tt)))
check_plain global (Some read) count decided is = (tt, (tt, (tt, (is, tt))))

told_plain : (t : Told) → IsUnmarked t → Each IsPlainRow (told_rows t)
told_plain (checked c) is = check_plain c.global c.cgroup c.count (decided_of c) is
told_plain other is = (tt, tt)

all_plain : (ts : List Told) → Each IsUnmarked ts → Each IsPlainRow (flat_map told_rows ts)
all_plain [] all = tt
all_plain (t ∷ ts) all = each_append IsPlainRow (told_rows t) (flat_map told_rows ts) (told_plain t all.0) (all_plain ts all.1)

parts_plain : (cpu : ℕ) (cpus : List CpuJournal) → Each (IsPlainPart (λ check. false)) cpus → Each IsPlainRow (parts_rows cpu (map told cpus))
parts_plain cpu [] all = tt
parts_plain cpu (p ∷ ps) all = each_append IsPlainRow (part_rows cpu (told p)) (parts_rows (cpu + 1) (map told ps)) (tt, all_plain (told p) all.0.marks) (parts_plain (cpu + 1) ps all.1)

timer_plain : (timer : List TimerEntry) → Each IsPlainRow (map row.Timed timer)
timer_plain [] = tt
timer_plain (e ∷ more) = (tt, timer_plain more)

left_plain : (page : ℕ) (lefts : List Left) → LeftFrom page lefts → Each IsPlainRow (map row.Left lefts)
left_plain page [] from = tt
left_plain page (l ∷ more) from = ((from.1, from.2), left_plain (l.page + 1) more from.3)

abbrev rows_in : (j : Journal) → List Row
rows_in j = whole_rows j.timer (map told j.cpus) j.left j.ending

rows_plain : (j : Journal) → IsPlainJournal j → Each IsPlainRow (rows_in j)
rows_plain j plain =
    let parts = map told j.cpus in
    let ends : List Row = census_row j.left ∷ totals_row parts ∷ row.End j.ending ∷ [] in
    each_append IsPlainRow (timer_rows j.timer) (parts_rows 0 parts ++ (map row.Left j.left ++ ends)) (tt, timer_plain j.timer)
    (each_append IsPlainRow (parts_rows 0 parts) (map row.Left j.left ++ ends) (parts_plain 0 j.cpus plain.parts)
    (each_append IsPlainRow (map row.Left j.left) ends (left_plain 0 j.left plain.left) (tt, (tt, (tt, tt)))))

journal_again : (j : Journal) → IsPlainJournal j → journal_of j.timer (map told j.cpus) j.left j.ending ≡ j
journal_again j plain = (λ i. record {
  timer = j.timer;
  cpus = parts_again j.cpus plain.parts i;
  steps = sym plain.steps i;
  bases = sym plain.bases i;
  homes = sym plain.homes i;
  left = j.left;
  strict = sym plain.strict i;
  ending = j.ending;
})

rows_lines : (j : Journal) → IsPlainJournal j → lines_of (rows_in j) ≡ journal_lines j
rows_lines j plain =
    let parts = map told j.cpus in
    ap lines_of (sym (apart j.timer parts j.left (census_row j.left) (totals_row parts) (row.End j.ending)))
    ∙ lines_are j.timer parts j.left j.ending ∙ ap journal_lines (journal_again j plain)

-- ---- its text tells it

abbrev read_as : (j : Journal) → Result Journal JournalFault
read_as j = Ok j

pub complete : (j : Journal) → IsPlainJournal j → HasAnswer journals start (journal_text j) (Ok j)
complete j plain =
    let parts = map told j.cpus in
    let end = state_of (at_end j.timer parts j.left j.ending) in
    let lines = rows_lines j plain in
    let formed = lines_formed (rows_in j) (subst (λ (ls : List Line). Each HasForm ls) (sym lines) plain.forms) in
    let lead = lead_of (rows_in j) start end (whole_runs j.timer parts j.left j.ending start refl plain.left) (rows_plain j plain) formed in
    let answer : read_as j ≡ read_as (journal_of j.timer parts j.left j.ending) = ap read_as (sym (journal_again j plain)) in
    (rows_in j, end, [], subst (λ (text : List ℕ). Lead journals (rows_in j) start text end []) (ap lines_text lines) lead, inl (refl, answer))
