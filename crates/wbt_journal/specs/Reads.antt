-- What a check read of its domains: triples that the timer published, and fractions of its periods and of what was added.
use Rattle.std.specs.Prelude.{◌≡◌, ℕ, ◌+◌, ◌≤◌, Bool, true, false, ◌&&◌, ◌||◌, not, ◌==◌, nat_le, nat_lt, if◌then◌else◌, Option, Some, None, IfSome, List, [], ◌∷◌, ◌++◌, flat_map, slice_get, sum_by}
use Rattle.std.specs.List.{list_all, list_any}
use Rattle.wbt_num.specs.declared.limits.Limits.{Limits}
use Rattle.wbt_trace.specs.declared.trace.Trace.{Trace}
use Rattle.wbt_journal.specs.declared.entry.CheckEntry.{CheckEntry}
use Rattle.wbt_journal.specs.declared.entry.DomainLine.{DomainLine}
use Rattle.wbt_journal.specs.declared.timer.TimerEntry.{TimerEntry}
use Rattle.wbt_journal.specs.declared.timer.TimerEntry.TheVariants as timer
use Rattle.wbt_journal.specs.Counts.{reads_of}
use Rattle.wbt_journal.specs.Each.{Each}
use Rattle.wbt_journal.specs.Effects.{Effect, Share, effect, of_part}
use Rattle.wbt_journal.specs.Items.{Item, begins, tells}
use Rattle.wbt_journal.specs.Machine.{domains, contexts}
use Rattle.wbt_journal.specs.Told.{Told}
use Rattle.wbt_journal.specs.Walk.{unless, first_of, first_failed}

-- what a check of an entry read of its domains
abbrev pub reads_in : (entry : Told) → List DomainLine
reads_in entry = of_part [] reads_of (effect entry).check

-- ---- triples

-- the limits that a timer's entry publishes for a domain, if it does
abbrev pub triple_in : (domain : ℕ) (entry : TimerEntry) → List Limits
triple_in domain (timer.Limits of now limits) = if of == domain then limits ∷ [] else []
triple_in domain (timer.Period of k) = []

-- the triples that the timer published for a domain
abbrev pub triples_of : (domain : ℕ) (entries : List TimerEntry) → List Limits
triples_of domain entries = flat_map (triple_in domain) entries

-- whether two triples of limits are equal
abbrev pub same_limits : (a b : Limits) → Bool
same_limits a b = a.thresh == b.thresh && (a.bg == b.bg && a.hard == b.hard)

-- whether these limits are the triple, where there is one
abbrev pub are_limits : (limits : Limits) (which : Option Limits) → Bool
are_limits limits None = false
are_limits limits (Some triple) = same_limits limits triple

-- its version names a triple of the timer for the domain, the first being 0, and it has that triple's limits
abbrev pub is_published : (entries : List TimerEntry) (read : DomainLine) → Bool
is_published entries read = are_limits read.limits (slice_get (triples_of read.domain entries) read.triple)

-- each triple that an item's check read is one that the timer published
abbrev pub TriplesArePublished : (entries : List TimerEntry) (item : Item) → Type 0
TriplesArePublished entries (begins cpu) = Unit {0}
TriplesArePublished entries (tells cpu entry) = Each (λ read. is_published entries read ≡ true) (reads_in entry)

-- what a CPU has read begins with its part
abbrev pub triples_after : (seen : List DomainLine) (item : Item) → List DomainLine
triples_after seen (begins cpu) = []
triples_after seen (tells cpu entry) = reads_in entry ++ seen

-- whether a reading is of another domain or of a triple no newer than this version
abbrev pub is_no_newer : (domain version : ℕ) (seen : DomainLine) → Bool
is_no_newer domain version seen = not (seen.domain == domain) || nat_le seen.triple version

-- no version goes back
abbrev pub is_new : (seen : List DomainLine) (read : DomainLine) → Bool
is_new seen read = list_all (is_no_newer read.domain read.triple) seen

-- no triple that an item's check read is older than what its CPU has read
abbrev pub TriplesGoOn : (seen : List DomainLine) (item : Item) → Type 0
TriplesGoOn seen (begins cpu) = Unit {0}
TriplesGoOn seen (tells cpu entry) = Each (λ read. is_new seen read ≡ true) (reads_in entry)

-- the fault of an item's first reading whose triple wasn't published or is older than what its CPU has read
abbrev pub triple_fault : (entries : List TimerEntry) (seen : List DomainLine) (item : Item) → Option ℕ
triple_fault entries seen (begins cpu) = None
triple_fault entries seen (tells cpu entry) = first_failed (λ read. is_published entries read && is_new seen read) 0 (reads_in entry)

-- ---- fractions

-- the periods that a domain has had: the first, and the sum after each of its period lines
abbrev pub periods_from : (domain period : ℕ) (entries : List TimerEntry) → List ℕ
periods_from domain period [] = period ∷ []
periods_from domain period (timer.Limits of now limits ∷ more) = periods_from domain period more
periods_from domain period (timer.Period of k ∷ more) =
    if of == domain then period ∷ periods_from domain (period + k) more else periods_from domain period more

-- how many events an entry adds for a context in a domain
abbrev pub added_by : (domain context : ℕ) (entry : Told) → ℕ
added_by domain context entry = of_part 0 (λ (share : Share). if share.domain == domain && share.context == context then share.n else 0) (effect entry).share

-- what was added for a context in a domain
abbrev pub added_to : (domain context : ℕ) (entries : List Told) → ℕ
added_to domain context entries = sum_by (added_by domain context) entries

-- a part of the whole, of a period that the domain has had, and of no more than was added
pub record IsFraction (entries : List TimerEntry) (all : List Told) (context : ℕ) (read : DomainLine) : Type 0 where
  pub some_whole : 1 ≤ read.share.den
  pub at_most_whole : read.share.num ≤ read.share.den
  pub of_period : list_any (λ period. period == read.share.period) (periods_from read.domain 0 entries) ≡ true
  pub of_added : read.share.num ≤ added_to read.domain context all

-- decides whether what was read is a fraction of a period of the domain, of no more than was added
abbrev pub is_fraction : (entries : List TimerEntry) (all : List Told) (context : ℕ) (read : DomainLine) → Bool
is_fraction entries all context read =
    nat_le 1 read.share.den && (nat_le read.share.num read.share.den
    && (list_any (λ period. period == read.share.period) (periods_from read.domain 0 entries) && nat_le read.share.num (added_to read.domain context all)))

-- a period that a CPU's check has read
pub record Period : Type 0 where
  pub domain : ℕ
  pub context : ℕ
  pub period : ℕ

-- the periods of a context in the domains that a check read
abbrev pub periods_read : (context : ℕ) (domain_lines : List DomainLine) → List Period
periods_read context [] = []
periods_read context (read ∷ reads) = record { domain = read.domain; context = context; period = read.share.period } ∷ periods_read context reads

-- the periods that an entry's check read
abbrev pub periods_in : (entry : Told) → List Period
periods_in entry = of_part [] (λ (check : CheckEntry). periods_read check.context (reads_of check)) (effect entry).check

-- whether a period that was read is of another domain or context, or no later than this one
abbrev pub is_no_later : (domain context period : ℕ) (seen : Period) → Bool
is_no_later domain context period seen = not (seen.domain == domain && seen.context == context) || nat_le seen.period period

-- no period goes back
abbrev pub is_new_enough : (seen : List Period) (context : ℕ) (read : DomainLine) → Bool
is_new_enough seen context read = list_all (is_no_later read.domain context read.share.period) seen

-- a share names a context and a domain that there are
pub record IsShare (trace : Trace) (domain context : ℕ) : Type 0 where
  pub domain_named : nat_lt domain (domains trace) ≡ true
  pub context_named : nat_lt context (contexts trace) ≡ true

-- each fraction of a check is one, and a share that is added is of what there is
pub record HasFractions (trace : Trace) (entries : List TimerEntry) (all : List Told) (did : Effect) : Type 0 where
  pub check : IfSome did.check (λ (check : CheckEntry). Each (IsFraction entries all check.context) (reads_of check))
  pub share : IfSome did.share (λ (share : Share). IsShare trace share.domain share.context)

-- an item's fractions are of periods that their domains have had, and its share is of what there is
abbrev pub FractionsAreOfPeriods : (trace : Trace) (entries : List TimerEntry) (all : List Told) (item : Item) → Type 0
FractionsAreOfPeriods trace entries all (begins cpu) = Unit {0}
FractionsAreOfPeriods trace entries all (tells cpu entry) = HasFractions trace entries all (effect entry)

-- no period that an item's check read is earlier than what its CPU has read
abbrev pub PeriodsGoOn : (seen : List Period) (item : Item) → Type 0
PeriodsGoOn seen (begins cpu) = Unit {0}
PeriodsGoOn seen (tells cpu entry) = IfSome (effect entry).check (λ (check : CheckEntry). Each (λ read. is_new_enough seen check.context read ≡ true) (reads_of check))

-- what a CPU has read begins with its part
abbrev pub periods_after : (seen : List Period) (item : Item) → List Period
periods_after seen (begins cpu) = []
periods_after seen (tells cpu entry) = periods_in entry ++ seen

-- the fault of a check's first fraction that isn't one of its domain or is of an earlier period than its CPU has read
abbrev pub read_fault : (entries : List TimerEntry) (all : List Told) (seen : List Period) (check : CheckEntry) → Option ℕ
read_fault entries all seen check = first_failed (λ read. is_fraction entries all check.context read && is_new_enough seen check.context read) 0 (reads_of check)

-- the fault of a share whose domain or context the trace hasn't
abbrev pub share_fault : (trace : Trace) (share : Share) → Option ℕ
share_fault trace share = unless (nat_lt share.domain (domains trace) && nat_lt share.context (contexts trace)) 0

-- an item's fault: a fraction of its check, or its share
abbrev pub fraction_fault : (trace : Trace) (entries : List TimerEntry) (all : List Told) (seen : List Period)
    (item : Item) → Option ℕ
fraction_fault trace entries all seen (begins cpu) = None
fraction_fault trace entries all seen (tells cpu entry) =
    first_of (of_part None (read_fault entries all seen) (effect entry).check) (of_part None (share_fault trace) (effect entry).share)
