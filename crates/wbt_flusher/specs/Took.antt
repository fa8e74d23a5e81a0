-- Which turn a flusher took.
use Rattle.std.specs.Prelude.{◌≡◌, ◌≢◌, ℕ, ◌+◌, ◌<◌, ◌≤◌, ◌⊎◌, ◌↔◌, IsTrue, Bool, true, false, List, [], ◌∷◌, ◌++◌, ◌&&◌, ◌||◌, length, get_or, set}
use Rattle.wbt_book.specs.Book.{is_claimable}
use Rattle.wbt_book.specs.PageWords.{bits_at}
use Rattle.wbt_fraction.specs.Several as share
use Rattle.wbt_fraction.specs.declared.total.note.TotalNote.TheVariants.{Wrote}
use Rattle.wbt_grant.specs.Kinds.{complete, mark}
use Rattle.wbt_journal.specs.declared.entry.CpuJournal.{CpuJournal}
use Rattle.wbt_journal.specs.declared.entry.Entry.TheVariants as entry
use Rattle.wbt_kit.specs.declared.kit.Kit.{Kit}
use Rattle.wbt_kit.specs.declared.kit.Seats.{Seats}
use Rattle.wbt_rules.specs.Flusher.{HasLanded}
use Rattle.wbt_rules.specs.Places.{page_of}
use Rattle.wbt_rules.specs.declared.moments.TheConstants.{FLUSHER_REST, MOST_FAULTS, RETRY_REST}
use Rattle.wbt_queue.specs.Order.{HasTaken}
use Rattle.wbt_queue.specs.Passes as queue
use Rattle.wbt_run_steps.specs.Backs.{GivesBack, MissesBack}
use Rattle.wbt_run_steps.specs.Inodes.{OnlyQueue}
use Rattle.wbt_run_steps.specs.declared.loads.DomainLoad.{DomainLoad}
use Rattle.wbt_run_steps.specs.Records.{OnlyCpu}
use Rattle.wbt_run_steps.specs.Steps.{Settled}
use Rattle.wbt_table.specs.Calls.{looked_at, tried}
use Rattle.wbt_table.specs.Layout.{setting}
use Rattle.wbt_table.specs.Seat.{Changes, Makes}
use Rattle.wbt_run_laws.specs.Log.{with_entry}
use Rattle.wbt_flusher.specs.Ageing.{DecidesByAge, TakesAny}
use Rattle.wbt_flusher.specs.Answers.{IsLeft}
use Rattle.wbt_flusher.specs.Begins.{BeginsScan}
use Rattle.wbt_flusher.specs.Loads.{AnyOver, Tested}
use Rattle.wbt_flusher.specs.Plans.{IsInode, context_of}
use Rattle.wbt_flusher.specs.Reads.{AddsShares, MeasuresAll}
use Rattle.wbt_flusher.specs.Sights.{Sight, list_by, tallies_of}
use Rattle.wbt_flusher.specs.Turns.{KeepsPlace, KeepsRest, OnlyShare, OnlyWaiting, PutsBefore, PutsInode, owing_more}
use Rattle.wbt_flusher.specs.Weighs.{WeighsAll}
use Rattle.wbt_flusher.specs.declared.background.Test.{Test}
use Rattle.wbt_flusher.specs.declared.plan.FlusherPlan.{FlusherPlan}
use Rattle.wbt_flusher.specs.declared.scan.Looked.{Looked}
use Rattle.wbt_flusher.specs.declared.scan.Looked.TheVariants.{Passed, Missed, Stopped}
use Rattle.wbt_flusher.specs.declared.work.Flight.{Flight}
use Rattle.wbt_flusher.specs.declared.work.Phase.TheVariants.{Idle, Scanning, Flying, Returning}
use Rattle.wbt_flusher.specs.declared.work.Return.{Return}
use Rattle.wbt_rules.specs.declared.scan.Scan.{Scan}
use Rattle.wbt_flusher.specs.declared.work.FlusherWork.{FlusherWork}

-- ---- an inode of the device's queue

-- the queue was empty at a moment of the call: the flusher rests until a moment
pub record FindsNone (plan : FlusherPlan) (until : ℕ) (old new : Sight) : Type 0 where
  pub empty : queue.Held 0 (queue.known_of plan.device old.seats.queue)
  pub seats : new.seats ≡ old.seats
  pub told : new.log ≡ old.log
  pub work : new.work ≡ record old.work { phase = Idle until false }

-- a number that names no inode of the device is dropped
pub record Drops (plan : FlusherPlan) (inode : ℕ) (old new : Sight) : Type 0 where
  pub strange : IsInode plan inode → ⊥
  pub seats : new.seats ≡ old.seats
  pub work : new.work ≡ record old.work { phase = Idle 0 false }

-- a number that was taken begins a scan, or is dropped where it names no inode of the device
abbrev pub TakesUp : (plan : FlusherPlan) (kit : Kit) (inode : ℕ) (old new : Sight) → Type 0
TakesUp plan kit inode old new = Drops plan inode old new ⊎ BeginsScan plan kit inode old new

-- the number that waited longest was taken
pub record TakesInode (plan : FlusherPlan) (kit : Kit) (old new : Sight) : Type 0 where
  pub inode : ℕ
  pub told : new.log ≡ old.log
  pub between : Seats
  pub only : OnlyQueue old.seats between
  pub taken : HasTaken (queue.known_of plan.device old.seats.queue) inode (queue.known_of plan.device between.queue)
  pub comes : TakesUp plan kit inode (record old { seats = between }) new

-- the flusher takes an inode of the queue, or rests where that is empty
abbrev pub TakesOrRests : (plan : FlusherPlan) (kit : Kit) (until : ℕ) (old new : Sight) → Type 0
TakesOrRests plan kit until old new = TakesInode plan kit old new ⊎ FindsNone plan until old new

-- ---- an idle flusher

-- By what was loaded of all domains, and whether a context is over by itself: nothing is over background, and it rests; or something is, and
-- it takes an inode, or rests where there is none. Where its device is ageing it decides by age.
pub data Decides (plan : FlusherPlan) (kit : Kit) (now : ℕ) (loads : List DomainLoad) (own : Bool) (old new : Sight) : Type 0 where
  is_calm : plan.ages ≡ false → (AnyOver loads → ⊥) → own ≡ false → new.seats ≡ old.seats → new.log ≡ old.log
      → new.work ≡ record old.work { phase = Idle (now + FLUSHER_REST) false } → Decides plan kit now loads own old new
  is_over : plan.ages ≡ false → AnyOver loads ⊎ (own ≡ true) → TakesOrRests plan kit (now + FLUSHER_REST) old new → Decides plan kit now loads own old new
  by_age : plan.ages ≡ true → (over : Bool) → (IsTrue over ↔ (AnyOver loads ⊎ (own ≡ true))) → DecidesByAge plan kit now over old new
      → Decides plan kit now loads own old new

-- At a moment it read each domain, kept the global one's hard limit, updated the estimates that were old enough, weighed the contexts of a
-- strict device, and decided.
pub record TestsAt (plan : FlusherPlan) (kit : Kit) (now : ℕ) (old new : Sight) : Type 0 where
  pub test : Test
  pub read : Seats
  pub tested : Tested plan test old.seats read
  pub measured : Sight
  pub measures : MeasuresAll plan kit now test.global (record old { work = record old.work { hard = test.global.limits.hard }; seats = read }) measured
  pub own : Bool
  pub weighed : Sight
  pub weighs : WeighsAll plan kit own measured weighed
  pub decides : Decides plan kit now (tested.global ∷ tested.others) own weighed new

-- outside the drain, at a moment that isn't before its rest's end
pub record Tests (plan : FlusherPlan) (kit : Kit) (drain : Bool) (told : ℕ → Type 0) (old new : Sight) : Type 0 where
  pub outside : drain ≡ false
  pub until : ℕ
  pub kept : Bool
  pub phase : old.work.phase ≡ Idle until kept
  pub now : ℕ
  pub was_told : told now
  pub come : until ≤ now
  pub tests : TestsAt plan kit now old new

-- it scans the first inode that waits for its age
pub record TakesWaiting (plan : FlusherPlan) (kit : Kit) (old new : Sight) : Type 0 where
  pub inode : ℕ
  pub taken : Sight
  pub takes : TakesAny plan inode old taken
  pub begins : BeginsScan plan kit inode taken new
  pub log : new.log ≡ taken.log

-- It takes the first inode that waits for its age; or none waits, and it takes one of the queue; or there was none of these either, and one
-- waits for the queue
abbrev pub TakesLast : (plan : FlusherPlan) (kit : Kit) (old new : Sight) → Type 0
TakesLast plan kit old new = TakesWaiting plan kit old new ⊎ ((list_by old.work ≡ []) × TakesInode plan kit old new)
    ⊎ ((old.work.some_wait ≡ true) × (list_by old.work ≡ []) × FindsNone plan 0 old new)

-- in the drain, at once but where its rest is kept
pub record Drains (plan : FlusherPlan) (kit : Kit) (drain : Bool) (told : ℕ → Type 0) (old new : Sight) : Type 0 where
  pub in_drain : drain ≡ true
  pub until : ℕ
  pub kept : Bool
  pub phase : old.work.phase ≡ Idle until kept
  pub come : (kept ≡ false) ⊎ ((now : ℕ) × told now × (until ≤ now))
  pub takes : TakesLast plan kit old new

-- ---- a page of a scan

-- it was dirty and not under writeback: it was claimed, is told, and stands in the batch
pub record ClaimsPage (plan : FlusherPlan) (kit : Kit) (scan next : Scan) (old new : Sight) : Type 0 where
  pub word : ℕ
  pub claimable : is_claimable (bits_at word (page_of scan)) ≡ true
  pub claims : Changes plan.cpu (tried (setting kit.throttle.layout) plan.cpu (page_of scan) word word) old.seats.cpu new.seats.cpu
  pub told : new.log ≡ with_entry (entry.Claimed plan.flusher (page_of scan)) old.log
  pub batch : new.work.batch.items ≡ old.work.batch.items ++ page_of scan ∷ []
  pub next_is : next ≡ record scan { passed = scan.passed + 1 }

-- it wasn't: it was passed, and a mark is noted where it is dirty and under writeback
pub record PassesPage (plan : FlusherPlan) (kit : Kit) (scan next : Scan) (old new : Sight) : Type 0 where
  pub word : ℕ
  pub not_claimable : is_claimable (bits_at word (page_of scan)) ≡ false
  pub looks : Changes plan.cpu (looked_at (setting kit.throttle.layout) plan.cpu (page_of scan) word) old.seats.cpu new.seats.cpu
  pub told : new.log ≡ old.log
  pub batch : new.work.batch.items ≡ old.work.batch.items
  pub next_is : next ≡ record scan { passed = scan.passed + 1; noted = scan.noted || ((bits_at word (page_of scan)).dirty && (bits_at word (page_of scan)).writeback) }

-- another thread changed its word between: it is looked at again
pub record MissesPage (plan : FlusherPlan) (kit : Kit) (scan : Scan) (old new : Sight) : Type 0 where
  pub first : ℕ
  pub second : ℕ
  pub claimable : is_claimable (bits_at first (page_of scan)) ≡ true
  pub changed : first ≢ second
  pub tries : Changes plan.cpu (tried (setting kit.throttle.layout) plan.cpu (page_of scan) first second) old.seats.cpu new.seats.cpu
  pub only : OnlyCpu old.seats new.seats
  pub told : new.log ≡ old.log
  pub work : new.work ≡ old.work

-- the scan went on
pub record GoesOn (plan : FlusherPlan) (kit : Kit) (scan next : Scan) (old new : Sight) : Type 0 where
  pub phase : new.work.phase ≡ Scanning next
  pub rest : KeepsRest old.work new.work
  pub tallies : new.work.tallies ≡ old.work.tallies
  pub only : OnlyCpu old.seats new.seats
  pub page : ClaimsPage plan kit scan next old new ⊎ PassesPage plan kit scan next old new

-- the gate stopped it before the look, or after one that found the page claimable
pub record StopsAtPage (plan : FlusherPlan) (kit : Kit) (scan : Scan) (old new : Sight) : Type 0 where
  pub only : OnlyCpu old.seats new.seats
  pub told : new.log ≡ old.log
  pub work : new.work ≡ old.work
  pub stops : (new.seats.cpu ≡ old.seats.cpu)
      ⊎ ((word : ℕ) × (is_claimable (bits_at word (page_of scan)) ≡ true) × Changes plan.cpu (looked_at (setting kit.throttle.layout) plan.cpu (page_of scan) word) old.seats.cpu new.seats.cpu)

-- what a look at a page did, by its answer
abbrev pub LooksAt : (plan : FlusherPlan) (kit : Kit) (scan : Scan) (looked : Looked) (old new : Sight) → Type 0
LooksAt plan kit scan (Passed next) old new = GoesOn plan kit scan next old new
LooksAt plan kit scan Missed old new = MissesPage plan kit scan old new
LooksAt plan kit scan Stopped old new = StopsAtPage plan kit scan old new

-- ---- the end of a scan

-- all pages of the inode were passed, or the batch has as many pages as it may
abbrev pub IsScanOver : (plan : FlusherPlan) (scan : Scan) (work : FlusherWork) → Type 0
IsScanOver plan scan work = (scan.pages ≤ scan.passed) ⊎ (scan.quota ≤ length work.batch.items)

-- pages weren't passed, or a mark is noted
abbrev pub IsMarkDue : (plan : FlusherPlan) (scan : Scan) → Type 0
IsMarkDue plan scan = (scan.noted ≡ true) ⊎ (scan.passed < scan.pages)

-- the inode was marked, and put where it had no mark
pub record Marks (plan : FlusherPlan) (kit : Kit) (inode : ℕ) (old new : Seats) (was is : FlusherWork) : Type 0 where
  pub found : ℕ
  pub makes : Makes (setting kit.throttle.layout) (mark plan.cpu inode) found old.cpu new.cpu
  pub puts : found ≡ 0 → PutsInode plan kit inode old.queue new.queue was is
  pub puts_none : found ≢ 0 → (new.queue ≡ old.queue) × (is ≡ was)

-- the inode is marked again exactly where that is due
pub data MarksAgain (plan : FlusherPlan) (kit : Kit) (scan : Scan) (old new : Seats) (was is : FlusherWork) : Type 0 where
  is_due : IsMarkDue plan scan → Marks plan kit scan.inode old new was is → MarksAgain plan kit scan old new was is
  is_not_due : (IsMarkDue plan scan → ⊥) → new ≡ old → is ≡ was → MarksAgain plan kit scan old new was is

-- where a mark is noted it rests from a moment on, in the drain too; else it is ready
pub data EndsEmpty (told : ℕ → Type 0) (scan : Scan) (old new : FlusherWork) : Type 0 where
  rests : (now : ℕ) → told now → scan.noted ≡ true → new ≡ record old { phase = Idle (now + FLUSHER_REST) true } → EndsEmpty told scan old new
  is_ready : scan.noted ≡ false → new ≡ record old { phase = Idle 0 false } → EndsEmpty told scan old new

-- the batch was handed to the disk at this moment, is told, and flies until the moment that the disk answered
pub record HandsOver (plan : FlusherPlan) (now : ℕ) (scan : Scan) (was is : FlusherWork) (before behind : CpuJournal) : Type 0 where
  pub until : ℕ
  pub told : behind ≡ with_entry (entry.Batch plan.flusher (length was.batch.items) now until) before
  pub work : is ≡ record was { phase = Flying (record { until = until; inode = scan.inode; landed = 0 }) }

-- the disk failed to write the batch, not for the last time: the fault is told, and the batch is given back from its first page on; what is
-- still to be added stays
pub record ReturnsBatch (plan : FlusherPlan) (scan : Scan) (was is : FlusherWork) (before behind : CpuJournal) : Type 0 where
  pub not_last : was.faults + 1 < MOST_FAULTS
  pub told : behind ≡ with_entry (entry.Fault plan.flusher (length was.batch.items)) before
  pub work : is ≡ record was { phase = Returning (record { inode = scan.inode; returned = 0 }); faults = was.faults + 1 }

-- the inode is marked again where that is due, and its place is kept; and then the batch flies, or is given back where the disk failed,
-- where there is one
pub record Closes (plan : FlusherPlan) (kit : Kit) (told : ℕ → Type 0) (scan : Scan) (old new : Sight) : Type 0 where
  pub marked : FlusherWork
  pub only : OnlyWaiting plan old.work marked
  pub marks : MarksAgain plan kit scan old.seats new.seats old.work marked
  pub kept : FlusherWork
  pub keeps : KeepsPlace plan scan marked kept
  pub ends : ((kept.batch.items ≡ []) × (new.log ≡ old.log) × EndsEmpty told scan kept new.work)
      ⊎ ((0 < length kept.batch.items) × ((now : ℕ) × told now × HandsOver plan now scan kept new.work old.log new.log))
      ⊎ ((0 < length kept.batch.items) × ReturnsBatch plan scan kept new.work old.log new.log)

-- ---- a flusher that scans

-- one look at a page, and the end of the scan exactly where it is over then
pub data ScansPage (plan : FlusherPlan) (kit : Kit) (told : ℕ → Type 0) (scan : Scan) (old new : Sight) : Type 0 where
  misses : MissesPage plan kit scan old new → ScansPage plan kit told scan old new
  goes_on : (next : Scan) → GoesOn plan kit scan next old new → (IsScanOver plan next new.work → ⊥) → ScansPage plan kit told scan old new
  closes : (next : Scan) (looked : Sight) → GoesOn plan kit scan next old looked → IsScanOver plan next looked.work → Closes plan kit told next looked new
      → ScansPage plan kit told scan old new

-- a turn of a flusher that scans
pub record Scans (plan : FlusherPlan) (kit : Kit) (told : ℕ → Type 0) (old new : Sight) : Type 0 where
  pub scan : Scan
  pub phase : old.work.phase ≡ Scanning scan
  pub page : ScansPage plan kit told scan old new

-- ---- a flusher whose batch flies

-- a batch of so many pages is counted into what the context wrote, and added in its domains
pub record CountsIn (plan : FlusherPlan) (context pages : ℕ) (old new : Sight) : Type 0 where
  pub counted : share.Seats
  pub word : ℕ
  pub domains : counted.domains ≡ old.seats.share.domains
  pub totals : counted.totals.notes ≡ Wrote context word (owing_more pages (tallies_of old.work context)).written ∷ old.seats.share.totals.notes
  pub adds : AddsShares plan context (set old.work.tallies.items context (record (owing_more pages (tallies_of old.work context)) { written = 0 })) new.work.tallies.items
      counted new.seats.share old.log new.log
  pub phase : new.work.phase ≡ Idle 0 false
  pub batch : length new.work.batch.items ≡ 0
  pub rest : KeepsRest old.work new.work
  pub only : OnlyShare old.seats new.seats

-- its counters' folds are told, and after the last page the batch is counted in
pub data Lands (plan : FlusherPlan) (kit : Kit) (said : ℕ → ℕ → Bool → Type 0) (flight : Flight) (old new : Sight) : Type 0 where
  still_flies : flight.landed < length old.work.batch.items → Settled plan.cpu kit said true old.seats new.seats old.log new.log → new.work ≡ old.work → Lands plan kit said flight old new
  is_last : (landed : Sight) → flight.landed ≡ length old.work.batch.items → Settled plan.cpu kit said true old.seats landed.seats old.log landed.log → landed.work ≡ old.work
      → CountsIn plan (context_of plan flight.inode) flight.landed landed new → Lands plan kit said flight old new

-- the batch's next page was completed, and is told
pub record DonePage (plan : FlusherPlan) (kit : Kit) (flight : Flight) (batch : List ℕ) (old new : Seats) (before behind : CpuJournal) : Type 0 where
  pub page : ℕ
  pub within : flight.landed < length batch
  pub its_page : page ≡ get_or batch flight.landed 0
  pub found : ℕ
  pub makes : Makes (setting kit.throttle.layout) (complete plan.cpu page) found old.cpu new.cpu
  pub only : OnlyCpu old new
  pub told : behind ≡ with_entry (entry.Done plan.flusher page) before

-- and it landed
pub record CompletesPage (plan : FlusherPlan) (kit : Kit) (said : ℕ → ℕ → Bool → Type 0) (flight : Flight) (old new : Sight) : Type 0 where
  pub completed : Sight
  pub completes : DonePage plan kit flight old.work.batch.items old.seats completed.seats old.log completed.log
  pub work : completed.work ≡ record old.work { phase = Flying (record flight { landed = flight.landed + 1 }) }
  pub lands : Lands plan kit said (record flight { landed = flight.landed + 1 }) completed new

-- at a moment that isn't before the disk's
pub record Flies (plan : FlusherPlan) (kit : Kit) (told : ℕ → Type 0) (said : ℕ → ℕ → Bool → Type 0) (old new : Sight) : Type 0 where
  pub flight : Flight
  pub phase : old.work.phase ≡ Flying flight
  pub now : ℕ
  pub was_told : told now
  pub come : HasLanded flight.until now
  pub page : CompletesPage plan kit said flight old new

-- ---- a flusher that gives a batch back

-- the batch's next page was given back, and is told: absorbed where it was dirty, and else it is dirty again; its inode's mark is owed
pub record GivesPage (plan : FlusherPlan) (kit : Kit) (giving : Return) (old new : Sight) : Type 0 where
  pub page : ℕ
  pub within : giving.returned < length old.work.batch.items
  pub its_page : page ≡ get_or old.work.batch.items giving.returned 0
  pub absorbed : Bool
  pub gives : GivesBack kit plan.cpu plan.flusher page absorbed old.seats new.seats old.log new.log
  pub work : new.work ≡ record old.work { phase = Returning (record giving { returned = giving.returned + 1 }) }

-- another thread changed its word between: it is looked at again
pub record MissesReturn (plan : FlusherPlan) (kit : Kit) (giving : Return) (old new : Sight) : Type 0 where
  pub page : ℕ
  pub within : giving.returned < length old.work.batch.items
  pub its_page : page ≡ get_or old.work.batch.items giving.returned 0
  pub first : ℕ
  pub second : ℕ
  pub misses : MissesBack kit plan.cpu page first second old.seats new.seats old.log new.log
  pub work : new.work ≡ old.work

-- the inode was marked, and put where it had no mark; the flusher has no batch any more, and rests from a moment on, but not in the drain
pub record EndsReturn (plan : FlusherPlan) (kit : Kit) (told : ℕ → Type 0) (inode : ℕ) (old new : Sight) : Type 0 where
  pub marked : FlusherWork
  pub only : OnlyWaiting plan old.work marked
  pub marks : Marks plan kit inode old.seats new.seats old.work marked
  pub now : ℕ
  pub was_told : told now
  pub phase : new.work.phase ≡ Idle (now + RETRY_REST) false
  pub batch : length new.work.batch.items ≡ 0
  pub rest : KeepsRest marked new.work
  pub tallies : new.work.tallies ≡ marked.tallies
  pub log : new.log ≡ old.log

-- its counters' folds are told, and after the last page the inode is marked
pub data ComesBack (plan : FlusherPlan) (kit : Kit) (told : ℕ → Type 0) (said : ℕ → ℕ → Bool → Type 0) (giving : Return) (old new : Sight) : Type 0 where
  still_returns : giving.returned < length old.work.batch.items → Settled plan.cpu kit said true old.seats new.seats old.log new.log → new.work ≡ old.work
      → ComesBack plan kit told said giving old new
  is_last_back : (settled : Sight) → giving.returned ≡ length old.work.batch.items → Settled plan.cpu kit said true old.seats settled.seats old.log settled.log
      → settled.work ≡ old.work → EndsReturn plan kit told giving.inode settled new → ComesBack plan kit told said giving old new

-- the next page of the batch was given back, or another thread changed its word between
pub data ReturnsPage (plan : FlusherPlan) (kit : Kit) (told : ℕ → Type 0) (said : ℕ → ℕ → Bool → Type 0) (giving : Return) (old new : Sight) : Type 0 where
  misses_it : MissesReturn plan kit giving old new → ReturnsPage plan kit told said giving old new
  gives_it : (given : Sight) → GivesPage plan kit giving old given → ComesBack plan kit told said (record giving { returned = giving.returned + 1 }) given new
      → ReturnsPage plan kit told said giving old new

-- whatever the moment
pub record Returns (plan : FlusherPlan) (kit : Kit) (told : ℕ → Type 0) (said : ℕ → ℕ → Bool → Type 0) (old new : Sight) : Type 0 where
  pub giving : Return
  pub phase : old.work.phase ≡ Returning giving
  pub page : ReturnsPage plan kit told said giving old new

-- ---- any of these

-- the turn of a flusher, by its phase
pub data Took (plan : FlusherPlan) (kit : Kit) (drain : Bool) (told : ℕ → Type 0) (said : ℕ → ℕ → Bool → Type 0) (old new : Sight) : Type 0 where
  tests : Tests plan kit drain told old new → Took plan kit drain told said old new
  drains : Drains plan kit drain told old new → Took plan kit drain told said old new
  scans : Scans plan kit told old new → Took plan kit drain told said old new
  flies : Flies plan kit told said old new → Took plan kit drain told said old new
  returns : Returns plan kit told said old new → Took plan kit drain told said old new

-- each inode that waited was put into the queue, as far as there was room, and then it took one of these turns
pub record FlusherTook (plan : FlusherPlan) (kit : Kit) (drain : Bool) (told : ℕ → Type 0) (said : ℕ → ℕ → Bool → Type 0) (old new : Sight) : Type 0 where
  pub put : Sight
  pub left : IsLeft old put
  pub puts : PutsBefore plan kit (length plan.inodes) old.seats.queue put.seats.queue old.work.waiting.items put.work.waiting.items put.work.some_wait
  pub took : Took plan kit drain told said put new
