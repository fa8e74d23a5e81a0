-- What the code of the point on folds keeps.
use Rattle.std.specs.Prelude.{◌≡◌, ℕ, ◌+◌, ◌-◌, Bool, true, false, not, ◌&&◌, nat_lt, nat_le, if◌then◌else◌, Option, Some, None, List, [], ◌∷◌, length, replicate}
use Rattle.std.specs.List.{list_any}
use Rattle.wbt_counter.specs.Batch.{domain_batch, context_batch}
use Rattle.wbt_counter.specs.declared.counter.Counter.{Counter}
use Rattle.wbt_counter.specs.declared.counter.Counter.TheVariants as counter
use Rattle.wbt_counter.specs.declared.record.Fold.{Fold}
use Rattle.wbt_trace.specs.declared.trace.Trace.{Trace}
use Rattle.wbt_journal.specs.Counts.{of_counter, is_version, is_fold, fold_fault, folds_after, folds_in}
use Rattle.wbt_journal.specs.Items.{Item, tells, item_size, items_of, all_told}
use Rattle.wbt_journal.specs.Machine.{domains, contexts}
use Rattle.wbt_journal.specs.Verdict.{first_cpu_line}
use Rattle.wbt_journal.specs.Walk.{first_fault}
use Rattle.wbt_journal.specs.declared.journal.Journal.{Journal}
use Rattle.wbt_audit_walk.specs.Acts.{told_of}
use Rattle.wbt_audit_walk.specs.declared.act.Act.{Act}
use Rattle.wbt_audit_reads.specs.declared.folds.Seen.{Seen}
use Rattle.wbt_audit_walk.specs.declared.places.Places.{Places}
use Rattle.wbt_audit_walk.specs.Places.{counter_place}
use Rattle.wbt_audit_walk.specs.Rows.{row_of, cell, push_cell}
use Rattle.wbt_audit_walk.specs.Walking.{Judges}

-- as many as the trace has
pub record AreOf (trace : Trace) (places : Places) : Type 0 where
  pub domains : places.domains ≡ domains trace
  pub contexts : places.contexts ≡ contexts trace

-- the place of a counter in a row of the trace's counters
abbrev pub place_in : (trace : Trace) (x : Counter) → Option ℕ
place_in trace x = counter_place (domains trace) (contexts trace) x

-- whether a version, counted from 0, is one of so many, and has been seen
abbrev pub mark_of : (x : Counter) (all seen : List Fold) (version : ℕ) → Option Bool
mark_of x all seen version =
    if nat_lt version (length (of_counter x all)) then Some (list_any (is_version x (version + 1)) seen) else None

-- by counter there is a mark for each version, which says whether it has been seen
abbrev pub AreMarks : (trace : Trace) (all : List Fold) (marks : List (List Bool)) (seen : List Fold) → Type 0
AreMarks trace all marks seen = (x : Counter) (p : ℕ) → place_in trace x ≡ Some p → (version : ℕ) → cell marks p version ≡ mark_of x all seen version

-- the code keeps the batches of counters, and which versions were seen
pub record KeepsSeen (trace : Trace) (all : List Fold) (kept : Seen) (seen : List Fold) : Type 0 where
  pub places : AreOf trace kept.places
  pub domain_batch : kept.domain_batch ≡ domain_batch trace.cpus
  pub context_batch : kept.context_batch ≡ context_batch trace.cpus
  pub marks : AreMarks trace all kept.versions seen

-- the code judges an item by its fold
abbrev pub JudgesFolds : (old new : Seen) (item : Item) (found : Option ℕ) → Type 0
JudgesFolds old new item found =
    (trace : Trace) (all : List Fold) → Judges (fold_fault trace all) folds_after (KeepsSeen trace all old) (KeepsSeen trace all new) item found

-- the same of an act
abbrev pub JudgesFold : (old new : Seen) (act : Act) (found : Option ℕ) → Type 0
JudgesFold old new act found = (cpu : ℕ) → JudgesFolds old new (tells cpu (told_of act)) found

-- whether a fold is none at fault, and then it is seen
pub record IsSeen (trace : Trace) (all : List Fold) (new : Seen) (seen : List Fold) (fold : Fold) (answer : Bool) : Type 0 where
  pub answers : answer ≡ is_fold trace all seen fold
  pub keeps : answer ≡ true → KeepsSeen trace all new (fold ∷ seen)

-- the code answers whether a fold is as it may be, and marks its version
abbrev pub SeesFold : (old new : Seen) (fold : Fold) (answer : Bool) → Type 0
SeesFold old new fold answer = (trace : Trace) (all seen : List Fold) → KeepsSeen trace all old seen → IsSeen trace all new seen fold answer

-- the batch of a counter, as it is kept
abbrev pub kept_batch : (kept : Seen) (counter : Counter) → ℕ
kept_batch kept (counter.Domain domain) = kept.domain_batch
kept_batch kept (counter.Context context) = kept.context_batch

-- a version that there is and that wasn't seen
abbrev pub is_unseen : (mark : Option Bool) → Bool
is_unseen None = false
is_unseen (Some seen) = not seen

-- whether a version from 1 on is there and wasn't seen
abbrev pub may_mark : (marks : List (List Bool)) (place version : ℕ) → Bool
may_mark marks place version = nat_le 1 version && is_unseen (cell marks place (version - 1))

-- one mark more for the fold's counter
abbrev pub mark_more_at : (place : Option ℕ) (marks : List (List Bool)) → List (List Bool)
mark_more_at None marks = marks
mark_more_at (Some place) marks = push_cell marks place false

-- one mark more for the counter of a fold
abbrev pub one_mark_more : (places : Places) (fold : Fold) (marks : List (List Bool)) → List (List Bool)
one_mark_more places fold marks = mark_more_at (counter_place places.domains places.contexts fold.counter) marks

-- each counter has as many marks as folds, and none says that its version was seen
abbrev pub HaveNone : (places : Places) (folds : List Fold) (marks : List (List Bool)) → Type 0
HaveNone places folds marks =
    (x : Counter) (p : ℕ) → counter_place places.domains places.contexts x ≡ Some p → row_of marks p ≡ replicate (length (of_counter x folds)) false

-- the first fold at fault
abbrev pub first_fold_fault : (trace : Trace) (j : Journal) → Option ℕ
first_fold_fault trace j = first_fault (fold_fault trace (folds_in (all_told j))) folds_after item_size (first_cpu_line j) [] (items_of j)
