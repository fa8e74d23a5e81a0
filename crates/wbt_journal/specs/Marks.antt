-- Journals whose decisions are marked by a rule, which no line tells.
use Rattle.std.specs.Prelude.{◌≡◌, Bool, false, [], map}
use Rattle.wbt_trace.specs.declared.trace.Trace.{Trace}
use Rattle.wbt_journal.specs.declared.entry.CheckEntry.{CheckEntry}
use Rattle.wbt_journal.specs.declared.entry.CpuJournal.{CpuJournal}
use Rattle.wbt_journal.specs.declared.journal.Journal.{Journal}
use Rattle.wbt_journal.specs.Checks.{with_marks}
use Rattle.wbt_journal.specs.Each.{Each}
use Rattle.wbt_journal.specs.Forms.{HasForm}
use Rattle.wbt_journal.specs.Lawful.{IsLawful}
use Rattle.wbt_journal.specs.Laws.{IsPrinted}
use Rattle.wbt_journal.specs.PlainJournal.{IsPlainJournal}
use Rattle.wbt_journal.specs.Text.{journal_lines, journal_text}
use Rattle.wbt_journal.specs.Told.{marked_as}

-- a check with the mark that a rule gives it
abbrev pub mark_by : (rule : CheckEntry → Bool) (check : CheckEntry) → CheckEntry
mark_by rule check = marked_as (rule check) check

-- a CPU's part, each of its checks with the mark of a rule
abbrev pub part_marked : (rule : CheckEntry → Bool) (part : CpuJournal) → CpuJournal
part_marked rule part = record { entries = part.entries; checks = map (mark_by rule) part.checks; estimates = part.estimates }

-- a journal, each of its checks with the mark of a rule
abbrev pub journal_marked : (rule : CheckEntry → Bool) (j : Journal) → Journal
journal_marked rule j = record {
  timer = j.timer;
  cpus = map (part_marked rule) j.cpus;
  steps = j.steps;
  bases = j.bases;
  homes = j.homes;
  left = j.left;
  strict = j.strict;
  ending = j.ending;
}

-- what is left of a journal in its text
abbrev pub unmarked_journal : (j : Journal) → Journal
unmarked_journal j = journal_marked (λ check. false) j

-- ---- a journal whose lines have their forms is printed with numbers of at most 64 bits

-- where each line of a threads' journal has its form, its numbers have at most 64 bits
abbrev pub FormsArePrinted : Type 0
FormsArePrinted = (j : Journal) → j.steps ≡ [] → j.bases ≡ [] → j.homes ≡ [] → Each HasForm (journal_lines j) → IsPrinted j

-- ---- the text of a lawful journal is that of a plain one, and the plain one gives the lawful one back

-- without its marks a journal is plain and has the same text, and its lines give the marks back
pub record IsTold (trace : Trace) (j : Journal) : Type 0 where
  pub plain : IsPlainJournal (unmarked_journal j)
  pub text : journal_text (unmarked_journal j) ≡ journal_text j
  pub marks : with_marks trace (unmarked_journal j) ≡ j

-- so it is for each lawful journal of threads without strict lines, where each line has its form
abbrev pub LawfulIsTold : Type 0
LawfulIsTold = (trace : Trace) (j : Journal) → IsLawful trace j → j.steps ≡ [] → j.bases ≡ [] → j.homes ≡ [] → j.strict ≡ []
    → Each HasForm (journal_lines j) → IsTold trace j
