-- What the code of the point on counts keeps.
use Rattle.std.specs.Prelude.{◌≡◌, ℕ, ◌+◌, Bool, false, ◌&&◌, nat_le, if◌then◌else◌, Option, Some, None, ℤ, List, [], ◌∷◌, ◌++◌, length, get_or}
use Rattle.std.specs.Ordering.{int_eq}
use Rattle.wbt_counter.specs.Counters.{is_same}
use Rattle.wbt_counter.specs.declared.counter.Count.{Count}
use Rattle.wbt_counter.specs.declared.counter.Counter.{Counter}
use Rattle.wbt_counter.specs.declared.counter.Counter.TheVariants as counter
use Rattle.wbt_counter.specs.declared.record.Fold.{Fold}
use Rattle.wbt_trace.specs.declared.trace.Trace.{Trace}
use Rattle.wbt_journal.specs.Counts.{Load, Version, count_fault, loads_of, of_counter, sum_to, version_of_fold, versions_after, versions_of}
use Rattle.wbt_journal.specs.Effects.{of_part}
use Rattle.wbt_journal.specs.Items.{Item, tells}
use Rattle.wbt_journal.specs.Machine.{domains, contexts}
use Rattle.wbt_journal.specs.Walk.{first_failed}
use Rattle.wbt_journal.specs.declared.entry.CheckEntry.{CheckEntry}
use Rattle.wbt_audit_walk.specs.Acts.{told_of}
use Rattle.wbt_audit_walk.specs.declared.act.Act.{Act}
use Rattle.wbt_audit_reads.specs.declared.counts.Counts.{Counts}
use Rattle.wbt_audit_reads.specs.Folding.{AreOf, place_in}
use Rattle.wbt_audit_walk.specs.Newest.{AreNewest}
use Rattle.wbt_audit_walk.specs.Places.{counter_place}
use Rattle.wbt_audit_walk.specs.Rows.{cell}
use Rattle.wbt_audit_walk.specs.Walking.{Judges}

-- the sum up to a version of a counter, where it had this version
abbrev pub sum_at : (x : Counter) (all : List Fold) (version : ℕ) → Option ℤ
sum_at x all version = if nat_le version (length (of_counter x all)) then Some (sum_to version (of_counter x all)) else None

-- by counter and version there are the sums of folds
abbrev pub AreSums : (trace : Trace) (all : List Fold) (sums : List (List ℤ)) → Type 0
AreSums trace all sums = (x : Counter) (p : ℕ) → place_in trace x ≡ Some p → (version : ℕ) → cell sums p version ≡ sum_at x all version

-- by counter there is the newest version that the CPU has seen
abbrev pub AreSeen : (trace : Trace) (seen : List Version) (newest : List ℕ) → Type 0
AreSeen trace seen newest =
    AreNewest is_same (place_in trace) (λ (v : Version). v.counter) (λ (v : Version). v.version) (domains trace + contexts trace) seen newest

-- the code keeps the sums of all folds and the newest versions seen
pub record KeepsCounts (trace : Trace) (all : List Fold) (kept : Counts) (seen : List Version) : Type 0 where
  pub places : AreOf trace kept.places
  pub sums : AreSums trace all kept.sums
  pub newest : AreSeen trace seen kept.newest

-- whether a count is a sum that there is
abbrev pub is_sum_of : (sum : Option ℤ) (value : ℤ) → Bool
is_sum_of None value = false
is_sum_of (Some sum) value = int_eq value sum

-- and no older than what was seen
abbrev pub test_at : (kept : Counts) (place : Option ℕ) (count : Count) → Bool
test_at kept None count = false
test_at kept (Some place) count = is_sum_of (cell kept.sums place count.version) count.value && nat_le (get_or kept.newest place 0) count.version

-- whether a count of a counter is a sum and no older than what was seen
abbrev pub test : (kept : Counts) (x : Counter) (count : Count) → Bool
test kept x count = test_at kept (counter_place kept.places.domains kept.places.contexts x) count

-- whether a loaded count passes the test
abbrev pub load_test : (kept : Counts) (load : Load) → Bool
load_test kept load = test kept load.counter load.count

-- the first line of a check that fails it
abbrev pub check_fault : (kept : Counts) (check : CheckEntry) → Option ℕ
check_fault kept check = first_failed (load_test kept) 0 (loads_of check)

-- the count of its context that a check loaded
abbrev pub context_load : (check : CheckEntry) → Load
context_load check = record { counter = counter.Context check.context; count = check.count }

-- the fault of that count, at its line
abbrev pub context_fault : (kept : Counts) (check : CheckEntry) (line : ℕ) → Option ℕ
context_fault kept check line = first_failed (load_test kept) line (context_load check ∷ [])

-- one version of a counter that was seen
abbrev pub one_version : (x : Counter) (version : ℕ) → List Version
one_version x version = record { counter = x; version = version } ∷ []

-- what is kept when these versions are seen besides
abbrev pub Sees : (old new : Counts) (versions : List Version) → Type 0
Sees old new versions = (trace : Trace) (all : List Fold) (seen : List Version) → KeepsCounts trace all old seen → KeepsCounts trace all new (versions ++ seen)

-- the version that a fold made, where there is a fold
abbrev pub versions_by : (fold : Option Fold) → List Version
versions_by fold = of_part [] version_of_fold fold

-- the code judges an item by its counts
abbrev pub JudgesCounts : (old new : Counts) (item : Item) (found : Option ℕ) → Type 0
JudgesCounts old new item found =
    (trace : Trace) (all : List Fold) → Judges (count_fault trace all) versions_after (KeepsCounts trace all old) (KeepsCounts trace all new) item found

-- the same of an act
abbrev pub JudgesCount : (old new : Counts) (act : Act) (found : Option ℕ) → Type 0
JudgesCount old new act found = (cpu : ℕ) → JudgesCounts old new (tells cpu (told_of act)) found

-- what a check's counts are judged to be, and what is kept after them
abbrev pub JudgesCheck : (old new : Counts) (check : CheckEntry) (found : Option ℕ) → Type 0
JudgesCheck old new check found = (found ≡ check_fault old check) × (found ≡ None → Sees old new (versions_of (loads_of check)))
