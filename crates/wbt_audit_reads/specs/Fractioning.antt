-- What the code of the point on fractions keeps.
use Rattle.std.specs.Prelude.{◌≡◌, ℕ, ◌*◌, Bool, false, ◌&&◌, ◌==◌, nat_le, nat_lt, Option, Some, None, List, ◌++◌, length, get_or}
use Rattle.std.specs.List.{list_any}
use Rattle.wbt_counter.specs.declared.record.Fold.{Fold}
use Rattle.wbt_trace.specs.declared.trace.Trace.{Trace}
use Rattle.wbt_journal.specs.Counts.{CountsAreSums, reads_of}
use Rattle.wbt_journal.specs.Effects.{Share}
use Rattle.wbt_journal.specs.Items.{Item, tells}
use Rattle.wbt_journal.specs.Machine.{domains, contexts}
use Rattle.wbt_journal.specs.Reads.{Period, fraction_fault, periods_after, periods_read}
use Rattle.wbt_journal.specs.Told.{Told}
use Rattle.wbt_journal.specs.Walk.{first_failed, unless}
use Rattle.wbt_journal.specs.declared.entry.CheckEntry.{CheckEntry}
use Rattle.wbt_journal.specs.declared.entry.DomainLine.{DomainLine}
use Rattle.wbt_journal.specs.declared.timer.TimerEntry.{TimerEntry}
use Rattle.wbt_audit_walk.specs.Acts.{told_of}
use Rattle.wbt_audit_walk.specs.declared.act.Act.{Act}
use Rattle.wbt_audit_reads.specs.declared.fractions.Fractions.{Fractions}
use Rattle.wbt_audit_reads.specs.Folding.{AreOf}
use Rattle.wbt_audit_walk.specs.Newest.{AreNewest}
use Rattle.wbt_audit_reads.specs.Periods.{ArePeriods, IsRising}
use Rattle.wbt_audit_walk.specs.Places.{place_of_pair, same_pairs}
use Rattle.wbt_audit_walk.specs.Rows.{row_of}
use Rattle.wbt_audit_reads.specs.Sharing.{AreAdded, pair_by}
use Rattle.wbt_audit_walk.specs.Walking.{Judges}

-- the domain and the context of a period that was read
abbrev pub pair_read : (seen : Period) → ℕ × ℕ
pair_read seen = (seen.domain, seen.context)

-- by domain and context there is the latest period that the CPU has read
abbrev pub AreRead : (trace : Trace) (seen : List Period) (newest : List ℕ) → Type 0
AreRead trace seen newest =
    AreNewest same_pairs (place_of_pair (domains trace) (contexts trace)) pair_read (λ (s : Period). s.period) (domains trace * contexts trace) seen newest

-- the code keeps each domain's periods, what was added, and the latest periods read
pub record KeepsFractions (trace : Trace) (entries : List TimerEntry) (all : List Told) (kept : Fractions) (seen : List Period) : Type 0 where
  pub places : AreOf trace kept.places
  pub rows : length kept.periods ≡ kept.places.domains
  pub periods : ArePeriods kept.places entries kept.periods
  pub added : AreAdded kept.places all kept.added.items
  pub newest : AreRead trace seen kept.newest

-- the periods of each domain rise
abbrev pub AreRising : (kept : Fractions) → Type 0
AreRising kept = (row : ℕ) → IsRising (row_of kept.periods row)

-- whether a read's fraction is a part of the whole, of a period that there was and of no more than was added
abbrev pub is_part_at : (kept : Fractions) (place : ℕ) (read : DomainLine) → Bool
is_part_at kept place read =
    nat_le 1 read.share.den && (nat_le read.share.num read.share.den
    && (list_any (λ period. period == read.share.period) (row_of kept.periods read.domain) && nat_le read.share.num (get_or kept.added.items place 0)))

-- and of no earlier period than was seen
abbrev pub test_at : (kept : Fractions) (place : Option ℕ) (read : DomainLine) → Bool
test_at kept None read = false
test_at kept (Some place) read = is_part_at kept place read && nat_le (get_or kept.newest place 0) read.share.period

-- whether a context's fraction in a domain passes the test
abbrev pub test : (kept : Fractions) (context : ℕ) (read : DomainLine) → Bool
test kept context read = test_at kept (pair_by kept.places read.domain context) read

-- the first line of a check whose fraction fails the test
abbrev pub check_fault : (kept : Fractions) (check : CheckEntry) → Option ℕ
check_fault kept check = first_failed (test kept check.context) 0 (reads_of check)

-- the code's answer is that fault, where the periods of each domain rise
abbrev pub IsFault : (kept : Fractions) (check : CheckEntry) (found : Option ℕ) → Type 0
IsFault kept check found = AreRising kept → found ≡ check_fault kept check

-- whether the domain and the context are there
abbrev pub has_pair : (kept : Fractions) (domain context : ℕ) → Bool
has_pair kept domain context = nat_lt domain kept.places.domains && nat_lt context kept.places.contexts

-- the fault of a share whose domain or context isn't there
abbrev pub share_fault : (kept : Fractions) (share : Option Share) → Option ℕ
share_fault kept None = None
share_fault kept (Some share) = unless (has_pair kept share.domain share.context) 0

-- what is kept when these are read besides
abbrev pub Sees : (old new : Fractions) (reads : List Period) → Type 0
Sees old new reads =
    (trace : Trace) (entries : List TimerEntry) (all : List Told) (seen : List Period) → KeepsFractions trace entries all old seen
    → KeepsFractions trace entries all new (reads ++ seen)

-- of an item whose counts are sums, so that what it names is there
abbrev pub JudgesFractions : (old new : Fractions) (item : Item) (found : Option ℕ) → Type 0
JudgesFractions old new item found =
    (trace : Trace) (folds : List Fold) (entries : List TimerEntry) (all : List Told) → CountsAreSums trace folds item → AreRising old
    → Judges (fraction_fault trace entries all) periods_after (KeepsFractions trace entries all old) (KeepsFractions trace entries all new) item found

-- the same of an act
abbrev pub JudgesFraction : (old new : Fractions) (act : Act) (found : Option ℕ) → Type 0
JudgesFraction old new act found = (cpu : ℕ) → JudgesFractions old new (tells cpu (told_of act)) found

-- what a check's fractions are judged to be, and what is kept after them
abbrev pub JudgesCheck : (old new : Fractions) (check : CheckEntry) (found : Option ℕ) → Type 0
JudgesCheck old new check found = IsFault old check found × (found ≡ None → Sees old new (periods_read check.context (reads_of check)))
