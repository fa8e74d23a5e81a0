-- What a turn answers, and what it did.
use Rattle.std.specs.Prelude.{◌≡◌, ℕ, ◌+◌, ◌^◌, ◌<◌, ◌≤◌, ◌⊎◌, ◌&&◌, not, Bool, true, false, if◌then◌else◌, [], All, Contains, length, Option, vec_len}
use Rattle.std.specs.Vec.{vec_capacity}
use Rattle.wbt_journal.specs.Each.{Each}
use Rattle.wbt_journal.specs.declared.entry.CpuJournal.{CpuJournal}
use Rattle.wbt_queue.specs.Passes as queue
use Rattle.wbt_table.specs.Calls.{HasNoPageSteps}
use Rattle.wbt_table.specs.Layout.{setting}
use Rattle.wbt_table.specs.Rule.{Cpus}
use Rattle.wbt_kit.specs.declared.kit.Kit.{Kit}
use Rattle.wbt_kit.specs.declared.kit.Seats.{Seats}
use Rattle.wbt_kit.specs.declared.turn.Turn.{Turn}
use Rattle.wbt_kit.specs.declared.turn.Turn.TheVariants.{Stepped, Resting, Done, Halted, Faulted, Spent, NoMemory}
use Rattle.wbt_run_steps.specs.Pens.{Paper}
use Rattle.wbt_run_steps.specs.Queues.{OnlyDevice}
use Rattle.wbt_flusher.specs.Did.{Moments, no_moments, Did, Fits, AreCounted, HasRooms, OwesNothing, IsStopped, AreOwed}
use Rattle.wbt_flusher.specs.Plans.{IsInode}
use Rattle.wbt_flusher.specs.Sights.{Sight, sight, held_cpus, list_by}
use Rattle.wbt_flusher.specs.Turns.{AreOf, HasLists, IsScan, IsSteady, IsIdle, HoldsPages}
use Rattle.wbt_flusher.specs.declared.plan.FlusherPlan.{FlusherPlan}
use Rattle.wbt_flusher.specs.declared.work.Phase.{Phase}
use Rattle.wbt_flusher.specs.declared.work.Phase.TheVariants.{Idle, Scanning, Flying, Returning, Failed}
use Rattle.wbt_flusher.specs.declared.work.Flight.{Flight}
use Rattle.wbt_flusher.specs.declared.work.Return.{Return}
use Rattle.wbt_rules.specs.declared.age.TheConstants.{MOST_NOTICED}
use Rattle.wbt_rules.specs.declared.moments.TheConstants.{MOST_FAULTS}
use Rattle.wbt_rules.specs.declared.scan.Scan.{Scan}
use Rattle.wbt_flusher.specs.declared.work.FlusherWork.{FlusherWork}

-- ---- calls of a turn

-- no CPU comes or goes, and none has completed more pages than it may where none had
pub record KeepsCpus (old new : Cpus) : Type 0 where
  pub as_many : held_cpus new ≡ held_cpus old
  pub counted : AreCounted old → AreCounted new

-- what calls did, and that the seats fit again
pub record Went (plan : FlusherPlan) (kit : Kit) (told : Moments) (old new : Sight) : Type 0 where
  pub did : Did plan kit told old new
  pub fits : Fits plan kit new.seats
  pub cpus : KeepsCpus old.seats.cpu.cpus new.seats.cpu.cpus
  -- of queues only that of the flusher's device got or gave numbers, and stakes stay
  pub queue : OnlyDevice plan.device old.seats.queue new.seats.queue

-- of calls that tell nothing, whatever the flusher keeps
abbrev pub GoesQuiet : (plan : FlusherPlan) (kit : Kit) (old new : Seats) → Type 0
GoesQuiet plan kit old new = (told : Moments) (work : FlusherWork) (log : CpuJournal) (written : Option ℕ)
    → Went plan kit told (sight work old log written) (sight work new log written)

-- of calls that tell something, and leave what the flusher keeps
abbrev pub GoesTold : (plan : FlusherPlan) (kit : Kit) (old new : Seats) (before behind : CpuJournal) → Type 0
GoesTold plan kit old new before behind = (told : Moments) (work : FlusherWork) (written : Option ℕ)
    → Went plan kit told (sight work old before written) (sight work new behind written)

-- of calls that tell nothing, and change what the flusher keeps
abbrev pub GoesKept : (plan : FlusherPlan) (kit : Kit) (old new : Seats) (was is : FlusherWork) → Type 0
GoesKept plan kit old new was is = (told : Moments) (log : CpuJournal) (written : Option ℕ)
    → Went plan kit told (sight was old log written) (sight is new log written)

-- of calls that tell no moment, and leave the disk
abbrev pub Goes : (plan : FlusherPlan) (kit : Kit) (old new : Seats) (before behind : CpuJournal) (was is : FlusherWork) → Type 0
Goes plan kit old new before behind was is = (told : Moments) (written : Option ℕ)
    → Went plan kit told (sight was old before written) (sight is new behind written)

-- of calls that tell one moment at most
abbrev pub GoesAt : (now : ℕ) (plan : FlusherPlan) (kit : Kit) (old new : Seats) (before behind : CpuJournal) (was is : FlusherWork) → Type 0
GoesAt now plan kit old new before behind was is = (told : Moments) (written : Option ℕ) → Contains told.estimates now
    → Went plan kit told (sight was old before written) (sight is new behind written)

-- ---- between two turns

-- The seats fit the flusher, which stands where it may between two turns; its CPU holds the pages that it claimed and has neither
-- completed nor given back, and owes no counter; and what is still to be added has room.
pub record IsReady (plan : FlusherPlan) (kit : Kit) (work : FlusherWork) (seats : Seats) : Type 0 where
  pub fits : Fits plan kit seats
  pub steady : IsSteady plan work
  pub holds : HoldsPages plan work seats
  pub rooms : HasRooms plan work seats
  pub owes_none : OwesNothing plan seats

-- what the flusher keeps is the same, but for the memory of its batch
pub record IsSameWork (old new : FlusherWork) : Type 0 where
  pub phase : new.phase ≡ old.phase
  pub batch : new.batch.items ≡ old.batch.items
  pub faults : new.faults ≡ old.faults
  pub hard : new.hard ≡ old.hard
  pub waiting : new.waiting ≡ old.waiting
  pub some_wait : new.some_wait ≡ old.some_wait
  pub tallies : new.tallies ≡ old.tallies
  pub wheel : new.wheel ≡ old.wheel
  pub places : new.places ≡ old.places

-- there is room for a page, its folds and the shares of its flight, for an estimate of each context, and for as many notices as may be
-- in a turn, with an inode that is taken
pub record HasSpace (plan : FlusherPlan) (work : FlusherWork) (paper : Paper) : Type 0 where
  pub entries : length plan.contexts + MOST_NOTICED + 7 ≤ paper.room
  pub estimates : length plan.contexts ≤ paper.estimates
  pub spare : vec_len work.batch < vec_capacity work.batch

-- where a scan is over
pub record IsOpen (plan : FlusherPlan) (kit : Kit) (scan : Scan) (work : FlusherWork) (seats : Seats) : Type 0 where
  pub fits : Fits plan kit seats
  pub lists : HasLists plan work
  pub phase : work.phase ≡ Scanning scan
  pub few_faults : work.faults < MOST_FAULTS
  pub stands : IsScan plan work.batch.items scan
  pub holds : HoldsPages plan work seats
  pub rooms : HasRooms plan work seats
  pub owes_none : OwesNothing plan seats

-- where a page of a flight is completed, and its counters are owed an event
pub record IsDown (plan : FlusherPlan) (kit : Kit) (flight : Flight) (work : FlusherWork) (seats : Seats) : Type 0 where
  pub fits : Fits plan kit seats
  pub lists : HasLists plan work
  pub phase : work.phase ≡ Flying flight
  pub few_faults : work.faults < MOST_FAULTS
  pub inode : IsInode plan flight.inode
  pub landed : flight.landed ≤ length work.batch.items
  pub pages : All (λ page. page < plan.pages) work.batch.items
  pub few : length work.batch.items ≤ plan.pages
  pub holds : HoldsPages plan work seats
  pub rooms : HasRooms plan work seats
  pub owed : AreOwed plan kit seats

-- where a page of a batch is given back, and its counters may be owed an event
pub record IsBack (plan : FlusherPlan) (kit : Kit) (giving : Return) (work : FlusherWork) (seats : Seats) : Type 0 where
  pub fits : Fits plan kit seats
  pub lists : HasLists plan work
  pub phase : work.phase ≡ Returning giving
  pub few_faults : work.faults < MOST_FAULTS
  pub inode : IsInode plan giving.inode
  pub returned : giving.returned ≤ length work.batch.items
  pub own : AreOf plan giving.inode work.batch.items
  pub few : length work.batch.items ≤ plan.pages
  pub holds : HoldsPages plan work seats
  pub rooms : HasRooms plan work seats
  pub owed : AreOwed plan kit seats

-- ---- answers

-- the end of the rest, or of the flight, that a flusher waits for; 0 where it waits for none
abbrev pub wait_of : (drain : Bool) (phase : Phase) → ℕ
wait_of drain (Idle until kept) = if drain && not kept then 0 else until
wait_of drain (Scanning scan) = 0
wait_of drain (Flying flight) = flight.until
wait_of drain (Returning giving) = 0
wait_of drain Failed = 0

-- it waits for no moment that is later than one that was told
abbrev pub HasCome : (told : ℕ → Type 0) (until : ℕ) → Type 0
HasCome told until = (until ≡ 0) ⊎ ((now : ℕ) × told now × (until ≤ now))

-- it stands as it stood, with its batch, what it has to add and the inodes that wait for their age, and the CPU's record, shares, estimates and the log stay; of the queue it says nothing
pub record IsLeft (old new : Sight) : Type 0 where
  pub phase : new.work.phase ≡ old.work.phase
  pub batch : new.work.batch.items ≡ old.work.batch.items
  pub faults : new.work.faults ≡ old.work.faults
  pub hard : new.work.hard ≡ old.work.hard
  pub tallies : new.work.tallies ≡ old.work.tallies
  pub wheel : new.work.wheel ≡ old.work.wheel
  pub places : new.work.places ≡ old.work.places
  pub cpu : new.seats.cpu ≡ old.seats.cpu
  pub share : new.seats.share ≡ old.seats.share
  pub est : new.seats.est ≡ old.seats.est
  pub log : new.log ≡ old.log

-- nothing was done at all
pub record IsUntouched (old new : Sight) : Type 0 where
  pub left : IsLeft old new
  pub queue : new.seats.queue ≡ old.seats.queue
  pub waiting : new.work.waiting ≡ old.work.waiting
  pub some_wait : new.work.some_wait ≡ old.work.some_wait
  pub written : new.written ≡ old.written

-- ---- what was done, by these moments

-- calls went on by these moments, and the flusher may take its next turn
pub record Steps (plan : FlusherPlan) (kit : Kit) (moments : Moments) (old new : Sight) : Type 0 where
  pub went : Went plan kit moments old new
  pub ready : IsReady plan kit new.work new.seats

-- The device's queue was empty at a moment of the call, and no inode waits for it, or for its age. Where the pass has all stakes each number that was ever
-- put into the device's queue was taken.
pub record IsDone (plan : FlusherPlan) (kit : Kit) (drain : Bool) (moments : Moments) (old new : Sight) : Type 0 where
  pub steps : Steps plan kit moments old new
  pub in_drain : drain ≡ true
  pub idle : IsIdle new.work
  pub none_wait : new.work.some_wait ≡ false
  pub none_listed : list_by new.work ≡ []
  pub empty : queue.Held 0 (queue.known_of plan.device new.seats.queue)
  pub whole : (queue.known_of plan.device new.seats.queue).stakes ≡ 2 ^ 32 → queue.AreAllTaken (queue.known_of plan.device new.seats.queue)

-- the gate said false to the CPU at the steps that its record has, and the flusher hasn't failed
pub record Halts (plan : FlusherPlan) (kit : Kit) (moments : Moments) (said : ℕ → ℕ → Bool → Type 0) (old new : Sight) : Type 0 where
  pub went : Went plan kit moments old new
  pub stands : new.work.phase ≡ Failed → ⊥
  pub stopped : IsStopped plan said new.seats

-- the disk failed for the last time, and the flusher has failed
pub record Faults (plan : FlusherPlan) (kit : Kit) (moments : Moments) (risen : Type 0) (old new : Sight) : Type 0 where
  pub went : Went plan kit moments old new
  pub cause : risen
  pub failed : new.work.phase ≡ Failed
  pub eighth : new.work.faults ≡ MOST_FAULTS
  pub holds : HoldsPages plan new.work new.seats
  pub rooms : HasRooms plan new.work new.seats
  pub owes_none : OwesNothing plan new.seats

-- the CPU has made as many page steps as it may
pub record IsSpent (plan : FlusherPlan) (kit : Kit) (moments : Moments) (old new : Sight) : Type 0 where
  pub steps : Steps plan kit moments old new
  pub none_left : HasNoPageSteps (setting kit.throttle.layout) plan.cpu new.seats.cpu

-- what comes of a turn that waits for nothing
abbrev pub Ends : (plan : FlusherPlan) (kit : Kit) (drain : Bool) (moments : Moments) (said : ℕ → ℕ → Bool → Type 0) (risen : Type 0)
    (answer : Turn) (old new : Sight) → Type 0
Ends plan kit drain moments said risen Stepped old new = Steps plan kit moments old new
Ends plan kit drain moments said risen Done old new = IsDone plan kit drain moments old new
Ends plan kit drain moments said risen Halted old new = Halts plan kit moments said old new
Ends plan kit drain moments said risen Faulted old new = Faults plan kit moments risen old new
Ends plan kit drain moments said risen Spent old new = IsSpent plan kit moments old new
Ends plan kit drain moments said risen (Resting now until) old new = ⊥
Ends plan kit drain moments said risen NoMemory old new = ⊥

-- all of these moments were told
pub record AreTold (told : ℕ → Type 0) (moments : Moments) : Type 0 where
  pub batches : Each told moments.batches
  pub estimates : Each told moments.estimates

-- by moments that were told, and no estimates
pub record EndsBy (told : ℕ → Type 0) (Does : Moments → Type 0) : Type 0 where
  pub moments : Moments
  pub all_told : AreTold told moments
  pub estimates_none : moments.estimates ≡ []
  pub does : Does moments

-- ---- the turn

-- Something was done by moments that were told, as the flusher waits for none that is later. In the drain no estimate is told.
pub record Acts (drain : Bool) (told : ℕ → Type 0) (until : ℕ) (Does : Moments → Type 0) : Type 0 where
  pub moments : Moments
  pub all_told : AreTold told moments
  pub none_in_drain : drain ≡ true → moments.estimates ≡ []
  pub come : HasCome told until
  pub does : Does moments

-- it rests, or the disk has its batch, until a moment that is later than the one that was told
pub record Rests (plan : FlusherPlan) (kit : Kit) (drain : Bool) (told : ℕ → Type 0) (now until : ℕ) (old new : Sight) : Type 0 where
  pub was_told : told now
  pub until_is : until ≡ wait_of drain old.work.phase
  pub later : now < until
  pub steps : Steps plan kit no_moments old new
  pub left : IsLeft old new

-- what a turn answers that found memory
abbrev pub TurnAnswers : (plan : FlusherPlan) (kit : Kit) (drain : Bool) (told : ℕ → Type 0) (said : ℕ → ℕ → Bool → Type 0) (risen : Type 0)
    (answer : Turn) (old new : Sight) → Type 0
TurnAnswers plan kit drain told said risen (Resting now until) old new = Rests plan kit drain told now until old new
TurnAnswers plan kit drain told said risen NoMemory old new = ⊥
TurnAnswers plan kit drain told said risen other old new =
    Acts drain told (wait_of drain old.work.phase) (λ moments. Ends plan kit drain moments said risen other old new)

-- where memory was refused nothing was done
abbrev pub FlusherAnswers : (plan : FlusherPlan) (kit : Kit) (drain : Bool) (told : ℕ → Type 0) (said : ℕ → ℕ → Bool → Type 0) (risen : Type 0)
    (answer : Turn) (old new : Sight) → Type 0
FlusherAnswers plan kit drain told said risen NoMemory old new = IsUntouched old new
FlusherAnswers plan kit drain told said risen other old new = TurnAnswers plan kit drain told said risen other old new
