-- What turns say of writeback by age: an inode is written for its age only when it is due, and then an idle turn writes one.
use Rattle.std.specs.Prelude.{◌≡◌, ℕ, ◌≤◌, Bool, false, true, List, ◌∷◌, IfSome}
use Rattle.wbt_expiry.specs.Kept.{NoneDue}
use Rattle.wbt_expiry.specs.Waiting.{Each}
use Rattle.wbt_expiry.specs.declared.due.Due.{Due}
use Rattle.wbt_trace.specs.declared.trace.Trace.{Trace}
use Rattle.wbt_journal.specs.Effects.{Wait, WaitMove, notices, ages, takes_first, effect}
use Rattle.wbt_journal.specs.Told.{Told}
use Rattle.wbt_journal.specs.Walk.{Along}
use Rattle.wbt_run_laws.specs.Log.{Logged}
use Rattle.wbt_run_laws.specs.Waits.{list_after}
use Rattle.wbt_kit.specs.declared.kit.Kit.{Kit}
use Rattle.wbt_flusher.specs.Ageing.{Notices, TakesDue}
use Rattle.wbt_flusher.specs.Begins.{BeginsScan}
use Rattle.wbt_flusher.specs.Plans.{IsWork}
use Rattle.wbt_flusher.specs.Sights.{Sight, list_by}
use Rattle.wbt_flusher.specs.declared.plan.FlusherPlan.{FlusherPlan}
use Rattle.wbt_flusher.specs.declared.work.Phase.TheVariants.{Idle}

-- ---- never early

-- The inode is due by this moment, which was told. It stands first of those that wait, and none of these is due before it.
pub record IsInTime (told : ℕ → Type 0) (inode due now : ℕ) (waiting : List Due) : Type 0 where
  pub was_told : told now
  pub by_now : due ≤ now
  pub rest : List Due
  pub first : waiting ≡ record { due = due; inode = inode } ∷ rest
  pub none_before : Each (λ other. due ≤ other.due) waiting

-- where the flusher takes an inode for its age
abbrev pub MoveIsInTime : (told : ℕ → Type 0) (move : WaitMove) (waiting : List Due) → Type 0
MoveIsInTime told (ages inode due now) waiting = IsInTime told inode due now waiting
MoveIsInTime told (notices inode since) waiting = Unit {0}
MoveIsInTime told (takes_first inode) waiting = Unit {0}

-- where an entry tells that it did
abbrev pub EntryIsInTime : (told : ℕ → Type 0) (flusher : ℕ) (waiting : List Due) (entry : Told) → Type 0
EntryIsInTime told flusher waiting entry = IfSome (effect entry).wait (λ (wait : Wait). wait.flusher ≡ flusher → MoveIsInTime told wait.move waiting)

-- so at each entry that a turn told, by the inodes that waited then
pub record WritesInTime (plan : FlusherPlan) (kit : Kit) (told : ℕ → Type 0) (old new : Sight) : Type 0 where
  pub added : List Told
  pub logged : Logged added old.log new.log
  pub in_time : (trace : Trace) → IsWork trace plan kit → Along (EntryIsInTime told plan.flusher) (list_after trace plan.flusher) (list_by old.work) added

-- ---- never late

-- an inode was taken of the list for its age, and its scan begins
pub record WritesForAge (plan : FlusherPlan) (kit : Kit) (now : ℕ) (old new : Sight) : Type 0 where
  pub inode : ℕ
  pub taken : Sight
  pub takes : TakesDue plan now inode old taken
  pub begins : BeginsScan plan kit inode taken new
  pub log : new.log ≡ taken.log

-- At a moment that was told the flusher, whose list was as before, noticed what was in its queue. Where some inode of the list is due by that
-- moment then, it writes one for its age.
pub record WritesWhatIsDue (plan : FlusherPlan) (kit : Kit) (told : ℕ → Type 0) (old new : Sight) : Type 0 where
  pub now : ℕ
  pub was_told : told now
  pub tested : Sight
  pub same_list : tested.work.wheel ≡ old.work.wheel
  pub noticed : Sight
  pub notices : Notices plan now tested noticed
  pub writes : (NoneDue now (list_by noticed.work) → ⊥) → WritesForAge plan kit now noticed new

-- a turn that is idle before, and not in the drain, of a flusher of an ageing device
pub record IsIdleTurn (plan : FlusherPlan) (drain : Bool) (old : Sight) : Type 0 where
  pub outside : drain ≡ false
  pub ageing : plan.ages ≡ true
  pub until : ℕ
  pub kept : Bool
  pub phase : old.work.phase ≡ Idle until kept
