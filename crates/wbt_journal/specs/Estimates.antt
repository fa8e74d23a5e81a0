-- Estimates: those of a context follow one another, and a check names one of them.
use Rattle.std.specs.Prelude.{◌≡◌, ℕ, ◌+◌, ◌-◌, ◌≤◌, Bool, true, ◌&&◌, ◌||◌, not, ◌==◌, nat_le, nat_lt, if◌then◌else◌, Option, None, IfSome, List, [], ◌∷◌, length, flat_map}
use Rattle.std.specs.List.{list_all}
use Rattle.wbt_estimate.specs.Bandwidth.{average_after, bandwidth_after}
use Rattle.wbt_estimate.specs.declared.estimate.Estimate.{Estimate}
use Rattle.wbt_rules.specs.First.{first_estimate}
use Rattle.wbt_rules.specs.declared.moments.TheConstants.{ESTIMATE_AGE}
use Rattle.wbt_trace.specs.declared.trace.Trace.{Trace}
use Rattle.wbt_journal.specs.declared.entry.CheckEntry.{CheckEntry}
use Rattle.wbt_journal.specs.declared.entry.EstEntry.{EstEntry}
use Rattle.wbt_journal.specs.declared.timer.TimerEntry.{TimerEntry}
use Rattle.wbt_journal.specs.declared.timer.TimerEntry.TheVariants as timer
use Rattle.wbt_journal.specs.Counts.{reads_of}
use Rattle.wbt_journal.specs.Effects.{effect, of_part}
use Rattle.wbt_journal.specs.Items.{Item, begins, tells}
use Rattle.wbt_journal.specs.Machine.{contexts}
use Rattle.wbt_journal.specs.Told.{Told}
use Rattle.wbt_journal.specs.Walk.{unless, first_of}

-- the moment of the first limits; 0 where there are none
abbrev pub opened_at : (entries : List TimerEntry) → ℕ
opened_at [] = 0
opened_at (timer.Limits domain now limits ∷ more) = now
opened_at (timer.Period domain k ∷ more) = opened_at more

-- the estimate of a context that an entry tells, if it tells one
abbrev pub estimate_in : (context : ℕ) (entry : Told) → List Estimate
estimate_in context entry = of_part [] (λ (est : EstEntry). if est.context == context then est.estimate ∷ [] else []) (effect entry).estimate

-- the estimates of a context, in order
abbrev pub estimates_of : (context : ℕ) (entries : List Told) → List Estimate
estimates_of context entries = flat_map (estimate_in context) entries

-- One estimate after another: its version is the next, 200 ticks and more lie between, and bandwidth and average are those of
-- what was written.
pub record Follows (old new : Estimate) : Type 0 where
  pub version : new.version ≡ old.version + 1
  pub later : old.at + ESTIMATE_AGE ≤ new.at
  pub bandwidth : new.bw ≡ bandwidth_after old.bw new.written_stamp old.written_stamp (new.at - old.at)
  pub average : new.avg ≡ average_after old.avg old.bw new.bw (new.at - old.at)

-- decides whether one estimate follows another
abbrev pub follows : (old new : Estimate) → Bool
follows old new =
    new.version == old.version + 1 && (nat_le (old.at + ESTIMATE_AGE) new.at
    && (new.bw == bandwidth_after old.bw new.written_stamp old.written_stamp (new.at - old.at)
    && new.avg == average_after old.avg old.bw new.bw (new.at - old.at)))

-- the estimate of a context that stands before: the newest of those seen, or the first
abbrev pub newest_of : (trace : Trace) (opened context : ℕ) → (seen : List EstEntry) → Estimate
newest_of trace opened context [] = first_estimate trace context opened
newest_of trace opened context (est ∷ older) = if est.context == context then est.estimate else newest_of trace opened context older

-- of a context that there is
pub record IsNext (trace : Trace) (opened : ℕ) (seen : List EstEntry) (est : EstEntry) : Type 0 where
  pub named : nat_lt est.context (contexts trace) ≡ true
  pub follows_last : Follows (newest_of trace opened est.context seen) est.estimate

-- an item's estimate follows the newest of its context among those seen
abbrev pub EstimatesFollow : (trace : Trace) (opened : ℕ) (seen : List EstEntry) (item : Item) → Type 0
EstimatesFollow trace opened seen (begins cpu) = Unit {0}
EstimatesFollow trace opened seen (tells cpu entry) = IfSome (effect entry).estimate (IsNext trace opened seen)

-- newest first
abbrev pub estimates_after : (seen : List EstEntry) (item : Item) → List EstEntry
estimates_after seen (begins cpu) = seen
estimates_after seen (tells cpu entry) = of_part seen (λ est. est ∷ seen) (effect entry).estimate

-- ---- what checks name

-- a version that a CPU's check has named
pub record Named : Type 0 where
  pub context : ℕ
  pub version : ℕ

-- the versions that the CPU's checks have named so far, newest first; each part begins with none
abbrev pub names_after : (seen : List Named) (item : Item) → List Named
names_after seen (begins cpu) = []
names_after seen (tells cpu entry) = of_part seen (λ (check : CheckEntry). record { context = check.context; version = check.estimate } ∷ seen) (effect entry).check

-- whether a version that was named is of another context or no newer than this one
abbrev pub is_no_newer : (context version : ℕ) (seen : Named) → Bool
is_no_newer context version seen = not (seen.context == context) || nat_le seen.version version

-- a check names version 0 or one that the journal has
pub record NamesEstimate (trace : Trace) (all : List Told) (check : CheckEntry) : Type 0 where
  pub named : nat_lt check.context (contexts trace) ≡ true
  pub within : check.estimate ≤ length (estimates_of check.context all)

-- an item's check names an estimate that its context has
abbrev pub ChecksNameEstimates : (trace : Trace) (all : List Told) (item : Item) → Type 0
ChecksNameEstimates trace all (begins cpu) = Unit {0}
ChecksNameEstimates trace all (tells cpu entry) = IfSome (effect entry).check (NamesEstimate trace all)

-- no version goes back
abbrev pub NamesGoOn : (seen : List Named) (item : Item) → Type 0
NamesGoOn seen (begins cpu) = Unit {0}
NamesGoOn seen (tells cpu entry) = IfSome (effect entry).check (λ (check : CheckEntry). list_all (is_no_newer check.context check.estimate) seen ≡ true)

-- the estimates seen in all parts so far, and the versions that the current CPU's checks have named
pub record Sight : Type 0 where
  pub estimates : List EstEntry
  pub names : List Named

-- nothing has been seen
abbrev pub no_sight : Sight
no_sight = record { estimates = []; names = [] }

-- what has been seen after an item
abbrev pub sight_after : (s : Sight) (item : Item) → Sight
sight_after s item = record { estimates = estimates_after s.estimates item; names = names_after s.names item }

-- the line of a check that names an estimate is its last
abbrev pub decision_at : (check : CheckEntry) → ℕ
decision_at check = length (reads_of check) + 1

-- the fault of an estimate that doesn't follow the newest of its context
abbrev pub next_fault : (trace : Trace) (opened : ℕ) (seen : List EstEntry) (est : EstEntry) → Option ℕ
next_fault trace opened seen est = unless (nat_lt est.context (contexts trace) && follows (newest_of trace opened est.context seen) est.estimate) 0

-- the fault of a check that names no estimate, or one older than its CPU has named
abbrev pub name_fault : (trace : Trace) (all : List Told) (names : List Named) (check : CheckEntry) → Option ℕ
name_fault trace all names check =
    unless (nat_lt check.context (contexts trace) && (nat_le check.estimate (length (estimates_of check.context all))
    && list_all (is_no_newer check.context check.estimate) names)) (decision_at check)

-- an item's fault: its estimate doesn't follow, or its check names what it may not
abbrev pub estimate_fault : (trace : Trace) (opened : ℕ) (all : List Told) (s : Sight) (item : Item) → Option ℕ
estimate_fault trace opened all s (begins cpu) = None
estimate_fault trace opened all s (tells cpu entry) =
    first_of (of_part None (next_fault trace opened s.estimates) (effect entry).estimate) (of_part None (name_fault trace all s.names) (effect entry).check)
