-- How a turn was cut off: what it did is a first part of a turn that a flusher takes.
use Rattle.std.specs.Prelude.{◌≡◌, ℕ, ◌+◌, ◌<◌, ◌≤◌, ◌⊎◌, ◌↔◌, IsTrue, Bool, true, false, List, [], ◌∷◌, map, length, get_or}
use Rattle.wbt_estimate.specs.declared.estimate.Estimate.{Estimate}
use Rattle.wbt_grant.specs.declared.who.Who.TheVariants.{Cpu}
use Rattle.wbt_journal.specs.declared.entry.CpuJournal.{CpuJournal}
use Rattle.wbt_journal.specs.declared.entry.Entry.TheVariants as entry
use Rattle.wbt_kit.specs.declared.kit.Kit.{Kit}
use Rattle.wbt_kit.specs.declared.kit.Seats.{Seats}
use Rattle.wbt_queue.specs.Order.{HasTaken}
use Rattle.wbt_queue.specs.Passes as queue
use Rattle.wbt_rules.specs.Flusher.{HasLanded}
use Rattle.wbt_rules.specs.declared.moments.TheConstants.{ESTIMATE_AGE, MOST_FAULTS}
use Rattle.wbt_rules.specs.declared.scan.Scan.{Scan}
use Rattle.wbt_run_laws.specs.Log.{with_entry}
use Rattle.wbt_run_steps.specs.Inodes.{OnlyQueue}
use Rattle.wbt_run_steps.specs.Backs.{StopsBack}
use Rattle.wbt_run_steps.specs.Loads.{LoadsPart, load_of, triple_of}
use Rattle.wbt_run_steps.specs.Reads.{ReadsEstimate}
use Rattle.wbt_run_steps.specs.Steps.{Settled}
use Rattle.wbt_run_steps.specs.declared.loads.DomainLoad.{DomainLoad}
use Rattle.wbt_flusher.specs.Ageing.{Notices, TakesAny, TakesByAge}
use Rattle.wbt_flusher.specs.Answers.{IsLeft}
use Rattle.wbt_flusher.specs.Loads.{AnyOver, AreFrom, Loaded, Tested}
use Rattle.wbt_flusher.specs.Plans.{IsInode, context_at, is_strict}
use Rattle.wbt_flusher.specs.Reads.{MeasuresAll, MeasuresBefore}
use Rattle.wbt_flusher.specs.Sights.{Sight, list_by}
use Rattle.wbt_flusher.specs.Took.{DonePage, FindsNone, GivesPage, GoesOn, IsMarkDue, IsScanOver, MarksAgain, StopsAtPage}
use Rattle.wbt_flusher.specs.Turns.{KeepsPlace, OnlyEst, OnlyWaiting, OwesNoMore, PutsBefore}
use Rattle.wbt_flusher.specs.Weighs.{WeighsAll, WeighsBefore}
use Rattle.wbt_flusher.specs.declared.background.Read.{Read}
use Rattle.wbt_flusher.specs.declared.background.Test.{Test}
use Rattle.wbt_flusher.specs.declared.plan.FlusherPlan.{FlusherPlan}
use Rattle.wbt_flusher.specs.declared.work.Flight.{Flight}
use Rattle.wbt_flusher.specs.declared.work.FlusherWork.{FlusherWork}
use Rattle.wbt_flusher.specs.declared.work.Phase.TheVariants.{Idle, Scanning, Flying, Returning, Failed}
use Rattle.wbt_flusher.specs.declared.work.Return.{Return}

-- nothing was done, and nothing told
pub record DoesNothing (old new : Sight) : Type 0 where
  pub seats : new.seats ≡ old.seats
  pub work : new.work ≡ old.work
  pub told : new.log ≡ old.log

-- ---- an idle flusher that the gate stopped

-- not all steps of a load of the domain's limits were made, or they were, and its count wasn't loaded
abbrev pub ReadsPart : (plan : FlusherPlan) (kit : Kit) (domain : ℕ) (old new : Seats) → Type 0
ReadsPart plan kit domain old new = LoadsPart kit plan.cpu (Cpu plan.cpu) domain old new

-- the domains from one on were read, in order, and not all of them
pub record ReadsSome (plan : FlusherPlan) (kit : Kit) (from : ℕ) (old new : Seats) : Type 0 where
  pub loads : List DomainLoad
  pub in_order : AreFrom from loads
  pub some_left : from + length loads < plan.domains
  pub between : Seats
  pub loaded : Loaded plan (map load_of loads) (map triple_of loads) old between
  pub part : ReadsPart plan kit (from + length loads) between new

-- of a context of the device the newest estimate was read, which is old enough for an update, and no step was made for it
pub record StopsAtContext (plan : FlusherPlan) (kit : Kit) (now context : ℕ) (old new : Sight) : Type 0 where
  pub of_device : (context_at plan context).device ≡ plan.device
  pub newest : Estimate
  pub reads : ReadsEstimate kit.published.firsts context newest old.seats.est new.seats.est
  pub old_enough : newest.at + ESTIMATE_AGE ≤ now
  pub only : OnlyEst old.seats new.seats
  pub work : new.work ≡ old.work
  pub told : new.log ≡ old.log

-- the estimates of contexts were updated, in order, and not of all of them
pub record MeasuresSome (plan : FlusherPlan) (kit : Kit) (now : ℕ) (global : Read) (old new : Sight) : Type 0 where
  pub leads : plan.leads ≡ true
  pub context : ℕ
  pub there : context < length plan.contexts
  pub between : Sight
  pub measured : MeasuresBefore plan kit now global context old between
  pub stops : StopsAtContext plan kit now context between new

-- contexts of a strict device were weighed, in order, and not all of them: no step was made for the next one
pub record WeighsSome (plan : FlusherPlan) (kit : Kit) (old new : Sight) : Type 0 where
  pub strict : is_strict plan ≡ true
  pub context : ℕ
  pub there : context < length plan.contexts
  pub of_device : (context_at plan context).device ≡ plan.device
  pub over : Bool
  pub weighed : WeighsBefore plan kit context over old new

-- The number that waited longest was taken, and nothing else was done: no step was made, so the inode's mark stays, and its scan didn't
-- begin. The number is gone for the device's flushers.
pub record LosesInode (plan : FlusherPlan) (old new : Sight) : Type 0 where
  pub inode : ℕ
  pub its : IsInode plan inode
  pub taken : HasTaken (queue.known_of plan.device old.seats.queue) inode (queue.known_of plan.device new.seats.queue)
  pub only : OnlyQueue old.seats new.seats
  pub work : new.work ≡ old.work
  pub told : new.log ≡ old.log

-- An inode that waited for its age was taken of the list, and told, and nothing else was done: no step was made, so its mark stays, and its scan
-- didn't begin.
pub record LosesWaiting (plan : FlusherPlan) (old new : Sight) : Type 0 where
  pub inode : ℕ
  pub takes : TakesAny plan inode old new

-- one that was taken by age, after its notices
pub record LosesByAge (plan : FlusherPlan) (now : ℕ) (over : Bool) (old new : Sight) : Type 0 where
  pub noticed : Sight
  pub notices : Notices plan now old noticed
  pub inode : ℕ
  pub takes : TakesByAge plan now over inode noticed new

-- one that was idle lost its inode so, or as something is over background
pub data LosesIdle (plan : FlusherPlan) (now : ℕ) (over : Bool) (old new : Sight) : Type 0 where
  of_list : plan.ages ≡ true → LosesByAge plan now over old new → LosesIdle plan now over old new
  of_queue : plan.ages ≡ false → over ≡ true → LosesInode plan old new → LosesIdle plan now over old new

-- in the drain it lost the first inode that waited for its age, or where none waited one of the queue
abbrev pub LosesLast : (plan : FlusherPlan) (old new : Sight) → Type 0
LosesLast plan old new = LosesWaiting plan old new ⊎ ((list_by old.work ≡ []) × LosesInode plan old new)

-- it was stopped among the domains, or among the estimates, or among the contexts that it weighs, or at the inode that it took as something
-- is over background, or by age
pub data TestsSome (plan : FlusherPlan) (kit : Kit) (now : ℕ) (old new : Sight) : Type 0 where
  at_a_domain : ReadsSome plan kit 0 old.seats new.seats → new.work ≡ old.work → new.log ≡ old.log → TestsSome plan kit now old new
  at_a_context : (test : Test) (read : Seats) → Tested plan test old.seats read
      → MeasuresSome plan kit now test.global (record old { work = record old.work { hard = test.global.limits.hard }; seats = read }) new → TestsSome plan kit now old new
  at_a_count : (test : Test) (read : Seats) → Tested plan test old.seats read → (measured : Sight)
      → MeasuresAll plan kit now test.global (record old { work = record old.work { hard = test.global.limits.hard }; seats = read }) measured
      → WeighsSome plan kit measured new → TestsSome plan kit now old new
  at_its_inode : (test : Test) (read : Seats) (tested : Tested plan test old.seats read) (measured : Sight)
      → MeasuresAll plan kit now test.global (record old { work = record old.work { hard = test.global.limits.hard }; seats = read }) measured
      → (own : Bool) (weighed : Sight) → WeighsAll plan kit own measured weighed
      → (over : Bool) → (IsTrue over ↔ (AnyOver (tested.global ∷ tested.others) ⊎ (own ≡ true)))
      → LosesIdle plan now over weighed new → TestsSome plan kit now old new

-- ---- one that scans

-- it was stopped at a page, or after it, where the scan is over and the inode's mark is due
pub data ScansSome (plan : FlusherPlan) (kit : Kit) (scan : Scan) (old new : Sight) : Type 0 where
  at_a_page : StopsAtPage plan kit scan old new → ScansSome plan kit scan old new
  at_its_mark : (next : Scan) (looked : Sight) → GoesOn plan kit scan next old looked → IsScanOver plan next looked.work → IsMarkDue plan next → DoesNothing looked new
      → ScansSome plan kit scan old new

-- ---- one whose batch flies

-- it was stopped before its next page, or after it, among the folds that it owed then
pub data CompletesSome (plan : FlusherPlan) (kit : Kit) (said : ℕ → ℕ → Bool → Type 0) (flight : Flight) (old new : Sight) : Type 0 where
  before_its_page : DoesNothing old new → CompletesSome plan kit said flight old new
  among_its_folds : (completed : Sight) → DonePage plan kit flight old.work.batch.items old.seats completed.seats old.log completed.log
      → completed.work ≡ record old.work { phase = Flying (record flight { landed = flight.landed + 1 }) }
      → Settled plan.cpu kit said false completed.seats new.seats completed.log new.log → new.work ≡ completed.work → CompletesSome plan kit said flight old new

-- ---- one that gives a batch back

-- it was stopped before its next page's look, or after it
pub record StopsAtReturn (plan : FlusherPlan) (kit : Kit) (said : ℕ → ℕ → Bool → Type 0) (giving : Return) (old new : Sight) : Type 0 where
  pub page : ℕ
  pub within : giving.returned < length old.work.batch.items
  pub its_page : page ≡ get_or old.work.batch.items giving.returned 0
  pub stops : StopsBack kit plan.cpu page said old.seats new.seats old.log new.log
  pub work : new.work ≡ old.work

-- It was stopped after a page, among the folds that it owed then; or after the last page, before the mark of its inode. Then the batch is given
-- back whole, and the CPU owes the mark still.
pub data StopsComingBack (plan : FlusherPlan) (kit : Kit) (said : ℕ → ℕ → Bool → Type 0) (giving : Return) (old new : Sight) : Type 0 where
  among_its_debts : Settled plan.cpu kit said false old.seats new.seats old.log new.log → new.work ≡ old.work → StopsComingBack plan kit said giving old new
  before_its_mark : (settled : Sight) → giving.returned ≡ length old.work.batch.items → Settled plan.cpu kit said true old.seats settled.seats old.log settled.log
      → settled.work ≡ old.work → DoesNothing settled new → StopsComingBack plan kit said giving old new

-- it was stopped at its next page, or after it
pub data ReturnsSome (plan : FlusherPlan) (kit : Kit) (said : ℕ → ℕ → Bool → Type 0) (giving : Return) (old new : Sight) : Type 0 where
  at_its_page : StopsAtReturn plan kit said giving old new → ReturnsSome plan kit said giving old new
  after_its_page : (given : Sight) → GivesPage plan kit giving old given → StopsComingBack plan kit said (record giving { returned = giving.returned + 1 }) given new
      → ReturnsSome plan kit said giving old new

-- ---- any of these

-- the gate stopped a turn
pub data StopsTook (plan : FlusherPlan) (kit : Kit) (drain : Bool) (told : ℕ → Type 0) (said : ℕ → ℕ → Bool → Type 0) (old new : Sight) : Type 0 where
  tests : drain ≡ false → (until : ℕ) (kept : Bool) → old.work.phase ≡ Idle until kept → (now : ℕ) → told now → until ≤ now → TestsSome plan kit now old new
      → StopsTook plan kit drain told said old new
  drains : drain ≡ true → (until : ℕ) (kept : Bool) → old.work.phase ≡ Idle until kept → (kept ≡ false) ⊎ ((now : ℕ) × told now × (until ≤ now)) → LosesLast plan old new
      → StopsTook plan kit drain told said old new
  scans : (scan : Scan) → old.work.phase ≡ Scanning scan → ScansSome plan kit scan old new → StopsTook plan kit drain told said old new
  flies : (flight : Flight) → old.work.phase ≡ Flying flight → (now : ℕ) → told now → HasLanded flight.until now → CompletesSome plan kit said flight old new
      → StopsTook plan kit drain told said old new
  returns : (giving : Return) → old.work.phase ≡ Returning giving → ReturnsSome plan kit said giving old new → StopsTook plan kit drain told said old new

-- the disk failed for the last time: the batch stays, nothing more is kept to be added, and the fault is told
pub record FailsBatch (plan : FlusherPlan) (was is : FlusherWork) (before behind : CpuJournal) : Type 0 where
  pub some : 0 < length was.batch.items
  pub told : behind ≡ with_entry (entry.Fault plan.flusher (length was.batch.items)) before
  pub phase : is.phase ≡ Failed
  pub batch : is.batch ≡ was.batch
  pub last : was.faults + 1 ≡ MOST_FAULTS
  pub faults : is.faults ≡ MOST_FAULTS
  pub hard : is.hard ≡ was.hard
  pub waiting : is.waiting ≡ was.waiting
  pub some_wait : is.some_wait ≡ was.some_wait
  pub wheel : is.wheel ≡ was.wheel
  pub places : is.places ≡ was.places
  pub less : OwesNoMore plan was is

-- the inode was marked again where that is due, and its place is kept; and then the disk failed for the last time
pub record FailsToClose (plan : FlusherPlan) (kit : Kit) (scan : Scan) (old new : Sight) : Type 0 where
  pub marked : FlusherWork
  pub only : OnlyWaiting plan old.work marked
  pub marks : MarksAgain plan kit scan old.seats new.seats old.work marked
  pub kept : FlusherWork
  pub keeps : KeepsPlace plan scan marked kept
  pub fails : FailsBatch plan kept new.work old.log new.log

-- so after a page with which the scan was over
pub record ScanFails (plan : FlusherPlan) (kit : Kit) (scan : Scan) (old new : Sight) : Type 0 where
  pub next : Scan
  pub looked : Sight
  pub page : GoesOn plan kit scan next old looked
  pub over : IsScanOver plan next looked.work
  pub closes : FailsToClose plan kit next looked new

-- the disk failed for the last time in a turn
pub record FailsTook (plan : FlusherPlan) (kit : Kit) (old new : Sight) : Type 0 where
  pub scan : Scan
  pub phase : old.work.phase ≡ Scanning scan
  pub fails : ScanFails plan kit scan old new

-- each inode that waited was put into the queue, as far as there was room, and then this was done
pub record AfterPuts (plan : FlusherPlan) (kit : Kit) (Does : (old new : Sight) → Type 0) (old new : Sight) : Type 0 where
  pub put : Sight
  pub left : IsLeft old put
  pub puts : PutsBefore plan kit (length plan.inodes) old.seats.queue put.seats.queue old.work.waiting.items put.work.waiting.items put.work.some_wait
  pub does : Does put new

-- the gate stopped a turn: what was done till then is a first part of a whole one
abbrev pub FlusherStops : (plan : FlusherPlan) (kit : Kit) (drain : Bool) (told : ℕ → Type 0) (said : ℕ → ℕ → Bool → Type 0) (old new : Sight) → Type 0
FlusherStops plan kit drain told said old new = AfterPuts plan kit (StopsTook plan kit drain told said) old new

-- the disk failed for the last time at the end of a scan
abbrev pub FlusherFails : (plan : FlusherPlan) (kit : Kit) (old new : Sight) → Type 0
FlusherFails plan kit old new = AfterPuts plan kit (FailsTook plan kit) old new

-- ---- a turn that found nothing to do

-- it waits for the end of its rest, or of its flight, or the CPU had no page step left for the next page of a batch that landed or is given back
abbrev pub FlusherWaits : (plan : FlusherPlan) (kit : Kit) (old new : Sight) → Type 0
FlusherWaits plan kit old new = AfterPuts plan kit DoesNothing old new

-- no inode waits for the device's queue, which was empty, or for its age
pub record FindsNothing (plan : FlusherPlan) (old new : Sight) : Type 0 where
  pub none_wait : old.work.some_wait ≡ false
  pub none_listed : list_by old.work ≡ []
  pub finds : FindsNone plan 0 old new

-- in the drain nothing is left for it
abbrev pub FlusherEnds : (plan : FlusherPlan) (kit : Kit) (old new : Sight) → Type 0
FlusherEnds plan kit old new = AfterPuts plan kit (FindsNothing plan) old new
