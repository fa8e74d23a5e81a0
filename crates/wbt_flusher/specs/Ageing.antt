-- What a flusher of an ageing device notices, and which of the inodes that wait it takes.
use Rattle.std.specs.Prelude.{◌≡◌, ℕ, zero, suc, ◌+◌, ◌<◌, ◌≤◌, ◌⊎◌, Bool, true, false, List, [], ◌∷◌}
use Rattle.wbt_expiry.specs.Kept.{NoneDue}
use Rattle.wbt_expiry.specs.Waiting.{with_pair, has_inode}
use Rattle.wbt_expiry.specs.declared.due.Due.{Due}
use Rattle.wbt_journal.specs.declared.entry.CpuJournal.{CpuJournal}
use Rattle.wbt_journal.specs.declared.entry.Entry.{Entry}
use Rattle.wbt_journal.specs.declared.entry.Entry.TheVariants as entry
use Rattle.wbt_kit.specs.declared.kit.Kit.{Kit}
use Rattle.wbt_queue.specs.Order.{HasTaken}
use Rattle.wbt_queue.specs.Passes as queue
use Rattle.wbt_rules.specs.declared.age.TheConstants.{MOST_NOTICED}
use Rattle.wbt_rules.specs.declared.moments.TheConstants.{FLUSHER_REST}
use Rattle.wbt_run_laws.specs.Log.{with_entry}
use Rattle.wbt_run_steps.specs.Inodes.{OnlyQueue}
use Rattle.wbt_flusher.specs.Ages.{noticed_pair, told_at, with_list}
use Rattle.wbt_flusher.specs.Begins.{BeginsScan}
use Rattle.wbt_flusher.specs.Plans.{IsInode}
use Rattle.wbt_flusher.specs.Sights.{Sight, list_by}
use Rattle.wbt_flusher.specs.declared.plan.FlusherPlan.{FlusherPlan}
use Rattle.wbt_flusher.specs.declared.work.FlusherWork.{FlusherWork}
use Rattle.wbt_flusher.specs.declared.work.Phase.TheVariants.{Idle}

-- ---- notices

-- An inode of the device that doesn't wait yet waits from this moment on, and is told. A number that names no such inode is dropped.
pub data NoticesNumber (plan : FlusherPlan) (now inode : ℕ) (was is : FlusherWork) (before behind : CpuJournal) : Type 0 where
  is_strange : (IsInode plan inode → ⊥) → is ≡ was → behind ≡ before → NoticesNumber plan now inode was is before behind
  waits_already : IsInode plan inode → has_inode inode (list_by was) ≡ true → is ≡ was → behind ≡ before → NoticesNumber plan now inode was is before behind
  is_noticed : IsInode plan inode → has_inode inode (list_by was) ≡ false → is ≡ record was { wheel = with_list (with_pair (noticed_pair plan inode now) (list_by was)) was.wheel }
      → behind ≡ with_entry (entry.Noticed plan.flusher inode now) before → NoticesNumber plan now inode was is before behind

-- the number that waited longest in the device's queue was taken, and noticed
pub record NoticesNext (plan : FlusherPlan) (now : ℕ) (old new : Sight) : Type 0 where
  pub inode : ℕ
  pub only : OnlyQueue old.seats new.seats
  pub taken : HasTaken (queue.known_of plan.device old.seats.queue) inode (queue.known_of plan.device new.seats.queue)
  pub notices : NoticesNumber plan now inode old.work new.work old.log new.log

-- so many numbers were, one after another
abbrev pub NoticesBefore : (plan : FlusherPlan) (now count : ℕ) (old new : Sight) → Type 0
NoticesBefore plan now zero old new = new ≡ old
NoticesBefore plan now (suc count) old new = (mid : Sight) × NoticesBefore plan now count old mid × NoticesNext plan now mid new

-- as many as may be in a turn, or all till the queue was empty at a moment of the call
pub data NoticesAll (plan : FlusherPlan) (now : ℕ) (old new : Sight) : Type 0 where
  as_many_as_may_be : NoticesBefore plan now MOST_NOTICED old new → NoticesAll plan now old new
  all_there_were : (count : ℕ) → count < MOST_NOTICED → NoticesBefore plan now count old new → queue.Held 0 (queue.known_of plan.device new.seats.queue)
      → NoticesAll plan now old new

-- ---- an inode that waits

-- the first inode of the list was taken, which an entry tells
pub record TakesFirst (pair : Due) (told : Entry) (old new : Sight) : Type 0 where
  pub rest : List Due
  pub first : list_by old.work ≡ pair ∷ rest
  pub seats : new.seats ≡ old.seats
  pub work : new.work ≡ record old.work { wheel = with_list rest old.work.wheel }
  pub log : new.log ≡ with_entry told old.log

-- for its age, as it is due by this moment
pub record TakesDue (plan : FlusherPlan) (now inode : ℕ) (old new : Sight) : Type 0 where
  pub due : ℕ
  pub by_now : due ≤ now
  pub takes : TakesFirst (record { due = due; inode = inode }) (entry.Aged plan.flusher inode due now) old new

-- or whenever it is due
pub record TakesAny (plan : FlusherPlan) (inode : ℕ) (old new : Sight) : Type 0 where
  pub due : ℕ
  pub takes : TakesFirst (record { due = due; inode = inode }) (entry.Taken plan.flusher inode) old new

-- an inode is taken for its age where one is due, and else only as something is over background
pub data TakesByAge (plan : FlusherPlan) (now : ℕ) (over : Bool) (inode : ℕ) (old new : Sight) : Type 0 where
  for_its_age : TakesDue plan now inode old new → TakesByAge plan now over inode old new
  as_it_is_over : NoneDue now (list_by old.work) → over ≡ true → TakesAny plan inode old new → TakesByAge plan now over inode old new

-- none is due by this moment, and nothing is over background, or no inode waits at all: the flusher rests
pub record RestsByAge (now : ℕ) (over : Bool) (old new : Sight) : Type 0 where
  pub none_due : NoneDue now (list_by old.work)
  pub none_over : (over ≡ false) ⊎ (list_by old.work ≡ [])
  pub seats : new.seats ≡ old.seats
  pub log : new.log ≡ old.log
  pub work : new.work ≡ record old.work { phase = Idle (now + FLUSHER_REST) false }

-- the wheel was told the turn's moment, and then what was in the queue was noticed
pub record Notices (plan : FlusherPlan) (now : ℕ) (old new : Sight) : Type 0 where
  pub notices : NoticesAll plan now (record old { work = record old.work { wheel = told_at now old.work.wheel } }) new

-- the scan of an inode that was taken so begins
pub record ScansByAge (plan : FlusherPlan) (kit : Kit) (now : ℕ) (over : Bool) (old new : Sight) : Type 0 where
  pub inode : ℕ
  pub taken : Sight
  pub takes : TakesByAge plan now over inode old taken
  pub begins : BeginsScan plan kit inode taken new
  pub log : new.log ≡ taken.log

-- after its notices it scans an inode, or rests
pub record DecidesByAge (plan : FlusherPlan) (kit : Kit) (now : ℕ) (over : Bool) (old new : Sight) : Type 0 where
  pub noticed : Sight
  pub notices : Notices plan now old noticed
  pub does : ScansByAge plan kit now over noticed new ⊎ RestsByAge now over noticed new
