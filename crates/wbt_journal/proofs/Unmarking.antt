-- A journal with other marks has the same lines; and what a lawful journal's text tells gives it back.
use Rattle.std.proofs.Common.{◌≡◌, ℕ, zero, suc, ◌+◌, pos, negsuc, Bool, false, Option, Some, None, List, [], ◌∷◌, length, map, flat_map, slice_get, refl, sym, ◌∙◌, ap, subst, arith}
use Rattle.std.specs.List.{sum_by, count_by}
use Rattle.std.proofs.lemmas.List.{map-append}
use Rattle.std.proofs.lemmas.List.Sums.{sum_by-cons}
use Rattle.wbt_trace.specs.declared.trace.Trace.{Trace}
use Rattle.wbt_journal.specs.declared.entry.CheckEntry.{CheckEntry}
use Rattle.wbt_journal.specs.declared.entry.CpuJournal.{CpuJournal}
use Rattle.wbt_journal.specs.declared.entry.Entry.{Entry}
use Rattle.wbt_journal.specs.declared.entry.Entry.TheVariants as entry
use Rattle.wbt_journal.specs.declared.entry.EstEntry.{EstEntry}
use Rattle.wbt_journal.specs.declared.field.Field.{Field}
use Rattle.wbt_journal.specs.declared.field.Field.TheVariants.{Name, Int, Domain, Context}
use Rattle.wbt_journal.specs.declared.journal.Journal.{Journal}
use Rattle.wbt_journal.specs.Checks.{mark_of, with_marks}
use Rattle.wbt_journal.specs.Each.{Each}
use Rattle.wbt_journal.specs.Forms.{Form, small, big, signed, counter, name, IsOf, AreOf, forms_of, HasForm}
use Rattle.wbt_journal.specs.Laws.{IsPrinted}
use Rattle.wbt_journal.specs.Line.{Line, lines_text}
use Rattle.wbt_journal.specs.Lines.{told_lines, cpu_lines}
use Rattle.wbt_journal.specs.Marks.{mark_by, part_marked, journal_marked, unmarked_journal, FormsArePrinted, LawfulIsTold}
use Rattle.wbt_journal.specs.Plain.{unmarked, MarkedBy, IsPlainPart, Fits, LineFits}
use Rattle.wbt_journal.specs.Text.{fresh_of, done_of, is_fresh, is_done, journal_lines}
use Rattle.wbt_journal.specs.Told.{Told, wrote, folded, checked, claimed, batch, done, share, estimated, fault, gave_back, noticed, aged, took, told, told_entry, one_checked, one_estimated, InOrder, NamesInOrder}
use Rattle.wbt_journal.proofs.Fixing.{plain}
use Rattle.wbt_journal.proofs.OneText.{text_once}

module _ (rule : CheckEntry → Bool) where
  abbrev mark_told : (told : Told) → Told
  mark_told (checked check) = checked (mark_by rule check)
  mark_told (wrote task page fresh) = wrote task page fresh
  mark_told (folded fold) = folded fold
  mark_told (claimed flusher page) = claimed flusher page
  mark_told (batch flusher pages now until) = batch flusher pages now until
  mark_told (done flusher page) = done flusher page
  mark_told (share domain context n) = share domain context n
  mark_told (estimated est) = estimated est
  mark_told (fault flusher pages) = fault flusher pages
  mark_told (gave_back flusher page absorbed) = gave_back flusher page absorbed
  mark_told (noticed flusher inode since) = noticed flusher inode since
  mark_told (aged flusher inode due now) = aged flusher inode due now
  mark_told (took flusher inode) = took flusher inode

  -- ---- what a part tells

  one_marked : (checks : List CheckEntry) (place : ℕ) → one_checked (slice_get (map (mark_by rule) checks) place) ≡ map mark_told (one_checked (slice_get checks place))
  one_marked [] place = refl
  one_marked (check ∷ checks) zero = refl
  one_marked (check ∷ checks) (suc place) = one_marked checks place

  est_marked : (which : Option EstEntry) → one_estimated which ≡ map mark_told (one_estimated which)
  est_marked None = refl
  est_marked (Some est) = refl

  entry_marked : (checks : List CheckEntry) (estimates : List EstEntry) (e : Entry) → told_entry (map (mark_by rule) checks) estimates e ≡ map mark_told (told_entry checks estimates e)
  entry_marked checks estimates (entry.Check place) = one_marked checks place
  entry_marked checks estimates (entry.Est place) = est_marked (slice_get estimates place)
  entry_marked checks estimates (entry.Write task page fresh) = refl
  entry_marked checks estimates (entry.Folded fold) = refl
  entry_marked checks estimates (entry.Claimed flusher page) = refl
  entry_marked checks estimates (entry.Batch flusher pages now until) = refl
  entry_marked checks estimates (entry.Done flusher page) = refl
  entry_marked checks estimates (entry.Share domain context n) = refl
  entry_marked checks estimates (entry.Fault flusher pages) = refl
  entry_marked checks estimates (entry.Back flusher page absorbed) = refl
  entry_marked checks estimates (entry.Noticed flusher inode since) = refl
  entry_marked checks estimates (entry.Aged flusher inode due now) = refl
  entry_marked checks estimates (entry.Taken flusher inode) = refl

  entries_marked : (checks : List CheckEntry) (estimates : List EstEntry) (entries : List Entry)
      → flat_map (told_entry (map (mark_by rule) checks) estimates) entries ≡ map mark_told (flat_map (told_entry checks estimates) entries)
  entries_marked checks estimates [] = refl
  entries_marked checks estimates (e ∷ more) =
      rw (entry_marked checks estimates e, entries_marked checks estimates more)
      (sym (map-append mark_told (told_entry checks estimates e) (flat_map (told_entry checks estimates) more)))

  told_marked : (part : CpuJournal) → told (part_marked rule part) ≡ map mark_told (told part)
  told_marked part = entries_marked part.checks part.estimates part.entries

  -- ---- its lines

  lines_marked : (t : Told) → told_lines (mark_told t) ≡ told_lines t
  lines_marked (checked check) = refl
  lines_marked (wrote task page fresh) = refl
  lines_marked (folded fold) = refl
  lines_marked (claimed flusher page) = refl
  lines_marked (batch flusher pages now until) = refl
  lines_marked (done flusher page) = refl
  lines_marked (share domain context n) = refl
  lines_marked (estimated est) = refl
  lines_marked (fault flusher pages) = refl
  lines_marked (gave_back flusher page absorbed) = refl
  lines_marked (noticed flusher inode since) = refl
  lines_marked (aged flusher inode due now) = refl
  lines_marked (took flusher inode) = refl

  all_lines_marked : (all : List Told) → flat_map told_lines (map mark_told all) ≡ flat_map told_lines all
  all_lines_marked [] = refl
  all_lines_marked (t ∷ more) = rw (lines_marked t, all_lines_marked more) refl

  cpus_marked : (cpu : ℕ) (parts : List CpuJournal) → cpu_lines cpu (map (part_marked rule) parts) ≡ cpu_lines cpu parts
  cpus_marked cpu [] = refl
  cpus_marked cpu (part ∷ parts) = rw (told_marked part, all_lines_marked (told part), cpus_marked (cpu + 1) parts) refl

  sums_marked : (many : List Entry → ℕ) (parts : List CpuJournal) → sum_by (λ (part : CpuJournal). many part.entries) (map (part_marked rule) parts) ≡ sum_by (λ (part : CpuJournal). many part.entries) parts
  sums_marked many [] = refl
  sums_marked many (part ∷ parts) =
      sum_by-cons (λ (part : CpuJournal). many part.entries) (part_marked rule part) (map (part_marked rule) parts)
      ∙ ap (λ n. many part.entries + n) (sums_marked many parts) ∙ sym (sum_by-cons (λ (part : CpuJournal). many part.entries) part parts)

  fresh_marked : (parts : List CpuJournal) → fresh_of (map (part_marked rule) parts) ≡ fresh_of parts
  fresh_marked parts = sums_marked (count_by is_fresh) parts

  done_marked : (parts : List CpuJournal) → done_of (map (part_marked rule) parts) ≡ done_of parts
  done_marked parts = sums_marked (count_by is_done) parts

  journal_lines_marked : (j : Journal) → j.steps ≡ [] → journal_lines (journal_marked rule j) ≡ journal_lines j
  unfolding journal_lines
  journal_lines_marked j none = rw (none, cpus_marked 0 j.cpus, fresh_marked j.cpus, done_marked j.cpus) refl

  -- ---- its names and marks

  length_marked : (checks : List CheckEntry) → length (map (mark_by rule) checks) ≡ length checks
  length_marked [] = refl
  length_marked (check ∷ checks) = ap suc (length_marked checks)

  names_marked : (part : CpuJournal) → NamesInOrder part → NamesInOrder (part_marked rule part)
  names_marked part names = subst (λ n. InOrder n (length part.estimates) 0 0 part.entries) (sym (length_marked part.checks)) names

  -- where the rule doesn't look at the mark itself
  module _ (stays : (check : CheckEntry) → rule check ≡ rule (unmarked (mark_by rule check))) where
    mark_is : (t : Told) → MarkedBy rule (mark_told t)
    mark_is (checked check) = stays check
    mark_is (wrote task page fresh) = tt
    mark_is (folded fold) = tt
    mark_is (claimed flusher page) = tt
    mark_is (batch flusher pages now until) = tt
    mark_is (done flusher page) = tt
    mark_is (share domain context n) = tt
    mark_is (estimated est) = tt
    mark_is (fault flusher pages) = tt
    mark_is (gave_back flusher page absorbed) = tt
    mark_is (noticed flusher inode since) = tt
    mark_is (aged flusher inode due now) = tt
    mark_is (took flusher inode) = tt

    marks_are : (all : List Told) → Each (MarkedBy rule) (map mark_told all)
    marks_are [] = tt
    marks_are (t ∷ more) = (mark_is t, marks_are more)

    parts_marked : (parts : List CpuJournal) → Each NamesInOrder parts → Each (IsPlainPart rule) (map (part_marked rule) parts)
    parts_marked [] names = tt
    parts_marked (part ∷ parts) names =
        (record { names = names_marked part names.0; marks = subst (Each (MarkedBy rule)) (sym (told_marked part)) (marks_are (told part)) }, parts_marked parts names.1)

-- ---- forms are numbers of 64 bits

field_fits : (form : Form) (field : Field) → IsOf form field → Fits field
field_fits small (Int (pos n)) is = omega (arith, is)
field_fits small (Int (negsuc n)) is = absurd is
field_fits small (Name word) is = absurd is
field_fits small (Domain n) is = absurd is
field_fits small (Context n) is = absurd is
field_fits big (Int (pos n)) is = is
field_fits big (Int (negsuc n)) is = absurd is
field_fits big (Name word) is = absurd is
field_fits big (Domain n) is = absurd is
field_fits big (Context n) is = absurd is
field_fits signed (Int (pos n)) is = omega (arith, is)
field_fits signed (Int (negsuc n)) is = omega (arith, is)
field_fits signed (Name word) is = absurd is
field_fits signed (Domain n) is = absurd is
field_fits signed (Context n) is = absurd is
field_fits counter (Domain n) is = omega (arith, is)
field_fits counter (Context n) is = omega (arith, is)
field_fits counter (Int (pos n)) is = absurd is
field_fits counter (Int (negsuc n)) is = absurd is
field_fits counter (Name word) is = absurd is
field_fits name (Name word) is = tt
field_fits name (Int (pos n)) is = absurd is
field_fits name (Int (negsuc n)) is = absurd is
field_fits name (Domain n) is = absurd is
field_fits name (Context n) is = absurd is

fields_fit : (forms : List Form) (fields : List Field) → AreOf forms fields → Each Fits fields
fields_fit [] [] are = tt
fields_fit [] (field ∷ fields) are = absurd are
fields_fit (form ∷ forms) [] are = absurd are
fields_fit (form ∷ forms) (field ∷ fields) are = (field_fits form field are.0, fields_fit forms fields are.1)

lines_fit : (lines : List Line) → Each HasForm lines → Each LineFits lines
lines_fit [] have = tt
lines_fit (l ∷ lines) have = (fields_fit (forms_of l.word) l.fields have.0, lines_fit lines have.1)

pub printed_by_forms : FormsArePrinted
printed_by_forms j steps bases homes forms = record { steps = steps; bases = bases; homes = homes; fits = lines_fit (journal_lines j) forms }

-- ---- a lawful journal

mark_of_stays : (trace : Trace) (check : CheckEntry) → mark_of trace check ≡ mark_of trace (unmarked (mark_by (mark_of trace) check))
unfolding mark_of unmarked
mark_of_stays trace check = refl

each_named : (rule : CheckEntry → Bool) (parts : List CpuJournal) → Each NamesInOrder parts → Each NamesInOrder (map (part_marked rule) parts)
each_named rule [] names = tt
each_named rule (part ∷ parts) names = (names_marked rule part names.0, each_named rule parts names.1)

pub lawful_is_told : LawfulIsTold
lawful_is_told trace j lawful steps bases homes strict forms =
    let none : CheckEntry → Bool = λ check. false in
    let printed : IsPrinted j = printed_by_forms j steps bases homes forms in
    let same : journal_lines (unmarked_journal j) ≡ journal_lines j = journal_lines_marked none j steps in
    let both : journal_lines (with_marks trace (unmarked_journal j)) ≡ journal_lines (unmarked_journal j) = journal_lines_marked (mark_of trace) (unmarked_journal j) steps in
    record {
      plain = record {
        steps = steps;
        bases = bases;
        homes = homes;
        strict = strict;
        parts = parts_marked none (λ check. refl) j.cpus lawful.legal.names;
        left = lawful.left;
        forms = subst (Each HasForm) (sym same) forms;
      };
      text = ap lines_text same;
      marks = text_once (mark_of trace) (with_marks trace (unmarked_journal j)) j (record {
        steps = steps;
        bases = bases;
        homes = homes;
        parts = parts_marked (mark_of trace) (mark_of_stays trace) (unmarked_journal j).cpus (each_named none j.cpus lawful.legal.names);
        left = (plain trace j lawful printed).left;
        fits = subst (Each LineFits) (sym (both ∙ same)) printed.fits;
      }) (plain trace j lawful printed) (ap lines_text (both ∙ same));
    }
