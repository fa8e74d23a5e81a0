-- Folds and counts: the versions of a counter's folds count up over all CPUs, and what a check counted is the sum of the first of them.
use Rattle.std.specs.Prelude.{◌≡◌, ℕ, ◌≤◌, Bool, true, false, ◌&&◌, ◌==◌, nat_le, ◌||◌, not, if◌then◌else◌, ℤ, pos, ◌+ℤ◌, unsigned_abs, Option, Some, None, IfSome, List, [], ◌∷◌, ◌++◌, length, flat_map, filter}
use Rattle.std.specs.List.{list_all, list_any}
use Rattle.std.specs.Ordering.{int_eq}
use Rattle.wbt_counter.specs.Counters.{is_same}
use Rattle.wbt_counter.specs.declared.counter.Count.{Count}
use Rattle.wbt_counter.specs.declared.counter.Counter.{Counter}
use Rattle.wbt_counter.specs.declared.counter.Counter.TheVariants as counter
use Rattle.wbt_counter.specs.declared.record.Fold.{Fold}
use Rattle.wbt_trace.specs.declared.trace.Trace.{Trace}
use Rattle.wbt_journal.specs.declared.entry.CheckEntry.{CheckEntry}
use Rattle.wbt_journal.specs.declared.entry.DomainLine.{DomainLine}
use Rattle.wbt_journal.specs.Each.{Each}
use Rattle.wbt_journal.specs.Effects.{effect, listed, of_part}
use Rattle.wbt_journal.specs.Items.{Item, begins, tells}
use Rattle.wbt_journal.specs.Machine.{batch_of, has_counter}
use Rattle.wbt_journal.specs.Told.{Told}
use Rattle.wbt_journal.specs.Walk.{unless, first_failed}

-- ---- folds

-- the fold that an entry tells, if it tells one
abbrev pub fold_in : (entry : Told) → List Fold
fold_in entry = listed (effect entry).fold

-- the folds of entries, in order
abbrev pub folds_in : (entries : List Told) → List Fold
folds_in entries = flat_map fold_in entries

-- the folds of one counter among others
abbrev pub of_counter : (x : Counter) (folds : List Fold) → List Fold
of_counter x folds = filter (λ fold. is_same x fold.counter) folds

-- a version of a counter
abbrev pub is_version : (x : Counter) (version : ℕ) (fold : Fold) → Bool
is_version x version fold = is_same x fold.counter && fold.version == version

-- A fold moves just a batch. With n folds of its counter in the journal its version is 1 to n, and none before it has that
-- version: so each version stands once.
pub record IsFold (trace : Trace) (all seen : List Fold) (fold : Fold) : Type 0 where
  pub named : has_counter trace fold.counter ≡ true
  pub full : unsigned_abs fold.delta ≡ batch_of trace fold.counter
  pub some : 1 ≤ fold.version
  pub within : fold.version ≤ length (of_counter fold.counter all)
  pub new : list_any (is_version fold.counter fold.version) seen ≡ false

-- decides whether a fold is as it may be
abbrev pub is_fold : (trace : Trace) (all seen : List Fold) (fold : Fold) → Bool
is_fold trace all seen fold =
    has_counter trace fold.counter && (unsigned_abs fold.delta == batch_of trace fold.counter && (nat_le 1 fold.version
    && (nat_le fold.version (length (of_counter fold.counter all)) && not (list_any (is_version fold.counter fold.version) seen))))

-- an item's fold is as it may be, given all folds of the journal and those before it
abbrev pub FoldsUp : (trace : Trace) (all seen : List Fold) (item : Item) → Type 0
FoldsUp trace all seen (begins cpu) = Unit {0}
FoldsUp trace all seen (tells cpu entry) = IfSome (effect entry).fold (IsFold trace all seen)

-- the fault of an item whose fold isn't as it may be
abbrev pub fold_fault : (trace : Trace) (all seen : List Fold) (item : Item) → Option ℕ
fold_fault trace all seen (begins cpu) = None
fold_fault trace all seen (tells cpu entry) = of_part None (λ fold. unless (is_fold trace all seen fold) 0) (effect entry).fold

-- the folds seen so far, of all parts, newest first
abbrev pub folds_after : (seen : List Fold) (item : Item) → List Fold
folds_after seen (tells cpu entry) = fold_in entry ++ seen
folds_after seen (begins cpu) = seen

-- ---- counts

-- what a check counted
pub record Load : Type 0 where
  pub counter : Counter
  pub count : Count

-- the reading of a check's cgroup, if it has one
abbrev pub cgroup_reads : (which : Option DomainLine) → List DomainLine
cgroup_reads None = []
cgroup_reads (Some read) = read ∷ []

-- what a check read of its domains: of the global one, then of its cgroup
abbrev pub reads_of : (check : CheckEntry) → List DomainLine
reads_of check = check.global ∷ cgroup_reads check.cgroup

-- the count of a domain that a check loaded
abbrev pub load_of_read : (read : DomainLine) → Load
load_of_read read = record { counter = counter.Domain read.domain; count = read.count }

-- the counts of domains that a check loaded, in order
abbrev pub read_loads : (domain_lines : List DomainLine) → List Load
read_loads [] = []
read_loads (read ∷ reads) = load_of_read read ∷ read_loads reads

-- in the order of its lines
abbrev pub loads_of : (check : CheckEntry) → List Load
loads_of check = read_loads (reads_of check) ++ record { counter = counter.Context check.context; count = check.count } ∷ []

-- the counts that an entry's check loaded; none of any other entry
abbrev pub loads_in : (entry : Told) → List Load
loads_in entry = of_part [] loads_of (effect entry).check

-- the sum of the folds up to a version
abbrev pub sum_to : (version : ℕ) (folds : List Fold) → ℤ
sum_to version [] = pos 0
sum_to version (fold ∷ folds) = if nat_le fold.version version then fold.delta +ℤ sum_to version folds else sum_to version folds

-- a count is the sum of the journal's folds up to its version, which is one that the counter had
pub record IsSum (trace : Trace) (all : List Fold) (load : Load) : Type 0 where
  pub named : has_counter trace load.counter ≡ true
  pub within : load.count.version ≤ length (of_counter load.counter all)
  pub sum : load.count.value ≡ sum_to load.count.version (of_counter load.counter all)

-- decides whether a count is the sum of the folds up to its version
abbrev pub is_sum : (trace : Trace) (all : List Fold) (load : Load) → Bool
is_sum trace all load =
    has_counter trace load.counter && (nat_le load.count.version (length (of_counter load.counter all))
    && int_eq load.count.value (sum_to load.count.version (of_counter load.counter all)))

-- a version that a CPU has seen of a counter: it made it by a fold, or loaded it
pub record Version : Type 0 where
  pub counter : Counter
  pub version : ℕ

-- the version that a fold made
abbrev pub version_of_fold : (fold : Fold) → List Version
version_of_fold fold = record { counter = fold.counter; version = fold.version } ∷ []

-- the versions of loaded counts
abbrev pub versions_of : (loads : List Load) → List Version
versions_of [] = []
versions_of (load ∷ loads) = record { counter = load.counter; version = load.count.version } ∷ versions_of loads

-- the versions that an entry lets its CPU see
abbrev pub versions_in : (entry : Told) → List Version
versions_in entry = of_part [] version_of_fold (effect entry).fold ++ versions_of (loads_in entry)

-- a version that isn't ahead of another, where both are of one counter
abbrev pub is_behind : (x : Counter) (version : ℕ) (seen : Version) → Bool
is_behind x version seen = not (is_same x seen.counter) || nat_le seen.version version

-- a count isn't older than what its CPU had seen of the counter
abbrev pub is_fresh_count : (seen : List Version) (load : Load) → Bool
is_fresh_count seen load = list_all (is_behind load.counter load.count.version) seen

-- each count that an item's check loaded is the sum of the folds up to its version
abbrev pub CountsAreSums : (trace : Trace) (all : List Fold) (item : Item) → Type 0
CountsAreSums trace all (begins cpu) = Unit {0}
CountsAreSums trace all (tells cpu entry) = Each (IsSum trace all) (loads_in entry)

-- no count that an item's check loaded is older than what its CPU has seen
abbrev pub CountsAreFresh : (seen : List Version) (item : Item) → Type 0
CountsAreFresh seen (begins cpu) = Unit {0}
CountsAreFresh seen (tells cpu entry) = Each (λ load. is_fresh_count seen load ≡ true) (loads_in entry)

-- what a CPU has seen begins with its part
abbrev pub versions_after : (seen : List Version) (item : Item) → List Version
versions_after seen (begins cpu) = []
versions_after seen (tells cpu entry) = versions_in entry ++ seen

-- the fault of an item's first count that is no sum of folds or is older than what its CPU has seen
abbrev pub count_fault : (trace : Trace) (all : List Fold) (seen : List Version) (item : Item) → Option ℕ
count_fault trace all seen (begins cpu) = None
count_fault trace all seen (tells cpu entry) = first_failed (λ load. is_sum trace all load && is_fresh_count seen load) 0 (loads_in entry)
