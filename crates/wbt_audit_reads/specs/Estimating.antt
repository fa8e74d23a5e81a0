-- What the code of the point on estimates keeps.
use Rattle.std.specs.Prelude.{◌≡◌, ℕ, ◌+◌, ◌-◌, ◌^◌, min, Bool, false, ◌&&◌, ◌==◌, nat_lt, nat_le, if◌then◌else◌, Option, Some, None, List, ◌∷◌, ◌++◌, length, get_or, set, slice_get}
use Rattle.wbt_estimate.specs.declared.estimate.Estimate.{Estimate}
use Rattle.wbt_trace.specs.declared.trace.Trace.{Trace}
use Rattle.wbt_journal.specs.Effects.{effect}
use Rattle.wbt_journal.specs.Estimates.{Named, Sight, estimate_fault, estimates_of, name_fault, newest_of, next_fault, sight_after}
use Rattle.wbt_journal.specs.Items.{Item, tells}
use Rattle.wbt_journal.specs.Machine.{contexts}
use Rattle.wbt_journal.specs.Told.{Told}
use Rattle.wbt_journal.specs.declared.entry.CheckEntry.{CheckEntry}
use Rattle.wbt_journal.specs.declared.entry.EstEntry.{EstEntry}
use Rattle.wbt_audit_walk.specs.Acts.{told_of, told_by}
use Rattle.wbt_audit_walk.specs.declared.act.Act.{Act}
use Rattle.wbt_audit_reads.specs.declared.estimates.Estimates.{Estimates}
use Rattle.wbt_audit_walk.specs.Newest.{AreNewest}
use Rattle.wbt_audit_walk.specs.Places.{below}
use Rattle.wbt_audit_walk.specs.Walking.{Judges}
use Rattle.wbt_audit_walk.specs.Walks.{rest, told_in}
use Rattle.wbt_audit_walk.specs.declared.walk.Walk.{Walk}

-- as many estimates as a context has, as far as a word tells it
abbrev pub capped : (n : ℕ) → ℕ
capped n = min n (2 ^ 64 - 1)

-- by context there is the number of its estimates among these entries
abbrev pub AreCounts : (contexts : ℕ) (entries : List Told) (counts : List ℕ) → Type 0
AreCounts contexts entries counts = (x : ℕ) → slice_get counts x ≡ (if nat_lt x contexts then Some (capped (length (estimates_of x entries))) else None)

-- the counts with one estimate more at a place
abbrev pub one_counted : (place : ℕ) (counts : List ℕ) → List ℕ
one_counted place counts = set counts place (capped (get_or counts place 0 + 1))

-- the counts with an estimate more, where there is one
abbrev pub counted_by : (est : Option EstEntry) (counts : List ℕ) → List ℕ
counted_by None counts = counts
counted_by (Some est) counts = one_counted est.context counts

-- of these entries, of which the rest are still to come
pub record CountsSome (contexts : ℕ) (all : List Told) (counts : List ℕ) (walk : Walk) : Type 0 where
  pub done : List Told
  pub are : AreCounts contexts done counts
  pub to_come : done ++ told_in (rest walk) ≡ all

-- what an act adds to the counts of entries before it
abbrev pub Counts : (act : Option Act) (old new : List ℕ) → Type 0
Counts act old new = (contexts : ℕ) (entries : List Told) → AreCounts contexts entries old → AreCounts contexts (entries ++ told_by act) new

-- by context there is the newest estimate of those seen
abbrev pub AreLast : (trace : Trace) (opened : ℕ) (seen : List EstEntry) (last : List Estimate) → Type 0
AreLast trace opened seen last = (x : ℕ) → slice_get last x ≡ (if nat_lt x (contexts trace) then Some (newest_of trace opened x seen) else None)

-- by context there is the newest version that the CPU's checks have named
abbrev pub AreNamed : (trace : Trace) (seen : List Named) (newest : List ℕ) → Type 0
AreNamed trace seen newest =
    AreNewest (λ (x y : ℕ). y == x) (below (contexts trace)) (λ (n : Named). n.context) (λ (n : Named). n.version) (contexts trace) seen newest

-- the code keeps the number of estimates, the newest seen and the newest named
pub record KeepsEstimates (trace : Trace) (opened : ℕ) (all : List Told) (kept : Estimates) (s : Sight) : Type 0 where
  pub counts : AreCounts (contexts trace) all kept.counts.items
  pub last : AreLast trace opened s.estimates kept.last.items
  pub named : AreNamed trace s.names kept.named

-- the code judges an item by its estimate and by what its check names
abbrev pub JudgesEstimates : (old new : Estimates) (item : Item) (found : Option ℕ) → Type 0
JudgesEstimates old new item found =
    (trace : Trace) (opened : ℕ) (all : List Told)
    → Judges (estimate_fault trace opened all) sight_after (KeepsEstimates trace opened all old) (KeepsEstimates trace opened all new) item found

-- the same of an act
abbrev pub JudgesEstimate : (old new : Estimates) (act : Act) (found : Option ℕ) → Type 0
JudgesEstimate old new act found = (cpu : ℕ) → JudgesEstimates old new (tells cpu (told_of act)) found

-- the same of an act that tells no estimate
abbrev pub JudgesOther : (old new : Estimates) (act : Act) (found : Option ℕ) → Type 0
JudgesOther old new act found = (cpu : ℕ) → (effect (told_of act)).estimate ≡ None → JudgesEstimates old new (tells cpu (told_of act)) found

-- what an estimate is judged to be, and what is kept after it
pub record IsNext (trace : Trace) (opened : ℕ) (all : List Told) (new : Estimates) (s : Sight) (est : EstEntry) (found : Option ℕ) : Type 0 where
  pub answer : next_fault trace opened s.estimates est ≡ found
  pub keeps : found ≡ None → KeepsEstimates trace opened all new (record s { estimates = est ∷ s.estimates })

-- the code judges an estimate by the newest of its context
abbrev pub JudgesNext : (old new : Estimates) (est : EstEntry) (found : Option ℕ) → Type 0
JudgesNext old new est found =
    (trace : Trace) (opened : ℕ) (all : List Told) (s : Sight) → KeepsEstimates trace opened all old s → IsNext trace opened all new s est found

-- the version that a check names, with its context
abbrev pub name_of : (check : CheckEntry) → Named
name_of check = record { context = check.context; version = check.estimate }

-- and a check that names one
pub record IsName (trace : Trace) (opened : ℕ) (all : List Told) (new : Estimates) (s : Sight) (check : CheckEntry) (found : Option ℕ) : Type 0 where
  pub answer : name_fault trace all s.names check ≡ found
  pub keeps : found ≡ None → KeepsEstimates trace opened all new (record s { names = name_of check ∷ s.names })

-- the code judges a check by the version that it names
abbrev pub JudgesName : (old new : Estimates) (check : CheckEntry) (found : Option ℕ) → Type 0
JudgesName old new check found =
    (trace : Trace) (opened : ℕ) (all : List Told) (s : Sight) → KeepsEstimates trace opened all old s → IsName trace opened all new s check found

-- whether a check names one of so many estimates, and none older than was named
abbrev pub may_by : (count : Option ℕ) (kept : Estimates) (check : CheckEntry) → Bool
may_by None kept check = false
may_by (Some count) kept check = nat_le check.estimate count && nat_le (get_or kept.named check.context 0) check.estimate

-- whether a check names an estimate that it may name
abbrev pub may_name : (kept : Estimates) (check : CheckEntry) → Bool
may_name kept check = may_by (slice_get kept.counts.items check.context) kept check
