-- Journals that their text fixes.
use Rattle.std.specs.Prelude.{◌≡◌, ◌^◌, ◌<◌, ◌≤◌, ◌+◌, pos, negsuc, Bool, false, IfSome, []}
use Rattle.wbt_journal.specs.declared.entry.CheckEntry.{CheckEntry}
use Rattle.wbt_journal.specs.declared.entry.CpuJournal.{CpuJournal}
use Rattle.wbt_journal.specs.declared.field.Field.{Field}
use Rattle.wbt_journal.specs.declared.field.Field.TheVariants.{Name, Int, Domain, Context}
use Rattle.wbt_journal.specs.declared.journal.Left.{Left}
use Rattle.wbt_journal.specs.declared.journal.Journal.{Journal}
use Rattle.wbt_journal.specs.Each.{Each}
use Rattle.wbt_journal.specs.Effects.{effect}
use Rattle.wbt_journal.specs.Line.{Line}
use Rattle.wbt_journal.specs.Told.{Told, told, NamesInOrder, marked_as}
use Rattle.wbt_journal.specs.Text.{journal_lines, journal_text}

-- a number in a line has at most 64 bits
abbrev pub Fits : (field : Field) → Type 0
Fits (Name word) = Unit {0}
Fits (Int (pos n)) = n < 2 ^ 64
Fits (Int (negsuc n)) = n + 1 < 2 ^ 64
Fits (Domain domain) = domain < 2 ^ 64
Fits (Context context) = context < 2 ^ 64

-- each number in a line has at most 64 bits
abbrev pub LineFits : (l : Line) → Type 0
LineFits l = Each Fits l.fields

-- a check without the one field that no line tells
unfoldable pub unmarked : (check : CheckEntry) → CheckEntry
unmarked = marked_as false

-- that field is the one that a rule gives from all the others
abbrev pub MarkedBy : (rule : CheckEntry → Bool) (entry : Told) → Type 0
MarkedBy rule entry = IfSome (effect entry).check (λ (check : CheckEntry). check.decision.exceeded ≡ rule (unmarked check))

-- a part that names its checks and estimates in order, whose marks are those of a rule
pub record IsPlainPart (rule : CheckEntry → Bool) (part : CpuJournal) : Type 0 where
  pub names : NamesInOrder part
  pub marks : Each (MarkedBy rule) (told part)

-- a page that is left is dirty, under writeback, or both
abbrev pub HasBits : (left : Left) → Type 0
HasBits left = (1 ≤ left.word) × (left.word ≤ 3)

-- a journal of a run of threads, whose marks follow from what its lines tell
pub record IsPlain (rule : CheckEntry → Bool) (j : Journal) : Type 0 where
  pub steps : j.steps ≡ []
  pub bases : j.bases ≡ []
  pub homes : j.homes ≡ []
  pub parts : Each (IsPlainPart rule) j.cpus
  pub left : Each HasBits j.left
  pub fits : Each LineFits (journal_lines j)

-- Whatever rule gives the mark that no line tells, the text fixes the journal.
abbrev pub TextFixesJournal : Type 0
TextFixesJournal = (rule : CheckEntry → Bool) (j k : Journal) → IsPlain rule j → IsPlain rule k → journal_text j ≡ journal_text k → j ≡ k
