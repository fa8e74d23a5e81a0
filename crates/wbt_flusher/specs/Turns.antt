-- Where a flusher stands between two steps.
use Rattle.std.specs.Prelude.{◌≡◌, ℕ, zero, suc, ◌+◌, ◌-◌, ◌^◌, min, ◌<◌, ◌≤◌, ◌⊎◌, if◌then◌else◌, Bool, true, false, List, [], All, length, get_or, set, ◌||◌}
use Rattle.wbt_flex.specs.declared.share.Fraction.{Fraction}
use Rattle.wbt_book.specs.Ledger.{times_in}
use Rattle.wbt_queue.specs.Passes as queue
use Rattle.wbt_io.specs.Faults.{HasRisen}
use Rattle.wbt_kit.specs.declared.kit.Kit.{Kit}
use Rattle.wbt_kit.specs.declared.kit.Seats.{Seats}
use Rattle.wbt_journal.specs.Flights.{scanning}
use Rattle.wbt_run_steps.specs.Inodes.{PutsWhere}
use Rattle.wbt_run_steps.specs.Records.{record_of}
use Rattle.wbt_flusher.specs.Ages.{HasWheel}
use Rattle.wbt_flusher.specs.Plans.{IsInode, inode_at, end_of, group_of}
use Rattle.wbt_flusher.specs.Sights.{pages_by, phase_by, landed_in, OwesRescan, OwesMark, owing, owing_total}
use Rattle.wbt_flusher.specs.declared.plan.FlusherPlan.{FlusherPlan}
use Rattle.wbt_flusher.specs.declared.tally.Tallies.{Tallies}
use Rattle.wbt_flusher.specs.declared.work.Flight.{Flight}
use Rattle.wbt_flusher.specs.declared.work.Phase.{Phase}
use Rattle.wbt_flusher.specs.declared.work.Phase.TheVariants.{Idle, Scanning, Flying, Returning, Failed}
use Rattle.wbt_flusher.specs.declared.work.Return.{Return}
use Rattle.wbt_rules.specs.Flusher.{IsWithinChunk}
use Rattle.wbt_rules.specs.Places.{place_after}
use Rattle.wbt_rules.specs.declared.moments.TheConstants.{MOST_FAULTS}
use Rattle.wbt_rules.specs.declared.scan.Scan.{Scan}
use Rattle.wbt_flusher.specs.declared.work.FlusherWork.{FlusherWork}

-- ---- where a flusher stands

-- pages of an inode
abbrev pub AreOf : (plan : FlusherPlan) (inode : ℕ) (pages : List ℕ) → Type 0
AreOf plan inode pages = All (λ page. ((inode_at plan inode).first ≤ page) × (page < end_of plan inode)) pages

-- A scan goes round the pages of an inode of the device, and the pages that it claimed are pages of the inode. They are no more than it
-- may claim, which is no more than the line of the device says.
pub record IsScan (plan : FlusherPlan) (batch : List ℕ) (scan : Scan) : Type 0 where
  pub inode : IsInode plan scan.inode
  pub first_is : scan.first ≡ (inode_at plan scan.inode).first
  pub pages_are : scan.pages ≡ (inode_at plan scan.inode).pages
  pub start : scan.start < scan.pages
  pub to : scan.passed ≤ scan.pages
  pub pages : All (λ page. page < plan.pages) batch
  pub own : AreOf plan scan.inode batch
  pub few : length batch ≤ scan.passed
  pub quota : length batch ≤ scan.quota
  pub chunk : IsWithinChunk plan.shares.chunk scan.quota

-- a flight has a page that isn't completed
pub record IsFlight (plan : FlusherPlan) (batch : List ℕ) (flight : Flight) : Type 0 where
  pub inode : IsInode plan flight.inode
  pub some_left : flight.landed < length batch
  pub pages : All (λ page. page < plan.pages) batch
  pub few : length batch ≤ plan.pages

-- a batch that is given back has a page that isn't yet, and its pages are pages of its inode
pub record IsReturn (plan : FlusherPlan) (batch : List ℕ) (giving : Return) : Type 0 where
  pub inode : IsInode plan giving.inode
  pub some_left : giving.returned < length batch
  pub own : AreOf plan giving.inode batch
  pub few : length batch ≤ plan.pages

-- where a flusher stands between two turns: its batch and its scan fit the phase, and it hasn't failed
abbrev pub IsPhase : (plan : FlusherPlan) (batch : List ℕ) (phase : Phase) → Type 0
IsPhase plan batch (Idle until kept) = batch ≡ []
IsPhase plan batch (Scanning scan) = IsScan plan batch scan × (scan.passed < scan.pages) × (length batch < scan.quota)
IsPhase plan batch (Flying flight) = IsFlight plan batch flight
IsPhase plan batch (Returning giving) = IsReturn plan batch giving
IsPhase plan batch Failed = ⊥

-- the batch of a flusher that scanned has at most as many pages as its scan's quota
abbrev pub IsWithinQuota : (phase : Phase) (batch : List ℕ) → Type 0
IsWithinQuota (Scanning scan) batch = length batch ≤ scan.quota
IsWithinQuota other batch = Unit {0}

-- a part of a whole
abbrev pub IsProper : (fraction : Fraction) → Type 0
IsProper fraction = (1 ≤ fraction.den) × (fraction.num ≤ fraction.den) × (fraction.den < 2 ^ 40)

-- both fractions that are held for a context are parts of a whole
abbrev pub AreProper : (tallies : Tallies) → Type 0
AreProper tallies = IsProper tallies.global.held × IsProper tallies.group.held

-- a place for each inode, at one of its pages
pub record ArePlaces (plan : FlusherPlan) (places : List ℕ) : Type 0 where
  pub many : length places ≡ length plan.inodes
  pub below : (inode : ℕ) → inode < length plan.inodes → get_or places inode 0 < (inode_at plan inode).pages

-- a list for each context and for each inode, and a wheel where the device is ageing
pub record HasLists (plan : FlusherPlan) (work : FlusherWork) : Type 0 where
  pub proper : All AreProper work.tallies.items
  pub tallies : length work.tallies.items ≡ length plan.contexts
  pub waiting : length work.waiting.items ≡ length plan.inodes
  pub none_wait : work.some_wait ≡ false → (inode : ℕ) → get_or work.waiting.items inode false ≡ false
  pub wheel : HasWheel plan work.wheel
  pub places : ArePlaces plan work.places.items

-- what a flusher keeps between two turns fits its plan
pub record IsSteady (plan : FlusherPlan) (work : FlusherWork) : Type 0 where
  pub lists : HasLists plan work
  pub phase : IsPhase plan work.batch.items work.phase
  pub few_faults : work.faults < MOST_FAULTS

-- the place of the inode at which its scan begins: that to which the last one came, where the device is cyclic
abbrev pub start_of : (plan : FlusherPlan) (work : FlusherWork) (inode : ℕ) → ℕ
start_of plan work inode = if plan.shares.cyclic then get_or work.places.items inode 0 else 0

-- a scan of an inode at its begin
abbrev pub begun_scan : (plan : FlusherPlan) (work : FlusherWork) (inode quota : ℕ) → Phase
begun_scan plan work inode quota = Scanning (record {
  inode = inode;
  first = (inode_at plan inode).first;
  pages = (inode_at plan inode).pages;
  start = start_of plan work inode;
  passed = 0;
  quota = quota;
  noted = false;
})

-- the places where a scan closes: that of its inode is the one to which it has come, where the device is cyclic
abbrev pub places_after : (plan : FlusherPlan) (scan : Scan) (places : List ℕ) → List ℕ
places_after plan scan places = if plan.shares.cyclic then set places scan.inode (place_after scan.pages scan.start scan.passed) else places

-- nothing but its places changed
pub record KeepsPlace (plan : FlusherPlan) (scan : Scan) (old new : FlusherWork) : Type 0 where
  pub phase : new.phase ≡ old.phase
  pub batch : new.batch ≡ old.batch
  pub faults : new.faults ≡ old.faults
  pub hard : new.hard ≡ old.hard
  pub waiting : new.waiting ≡ old.waiting
  pub some_wait : new.some_wait ≡ old.some_wait
  pub tallies : new.tallies ≡ old.tallies
  pub wheel : new.wheel ≡ old.wheel
  pub places : new.places.items ≡ places_after plan scan old.places.items

-- ---- faults

-- the disk failed to write no batch, or one more; and then its own count of faults rose
abbrev pub FaultsRise : (was is before now : ℕ) → Type 0
FaultsRise was is before now = (is ≡ was) ⊎ ((is ≡ was + 1) × HasRisen before now)

-- ---- queues

-- nothing but which inodes wait for the queue
pub record OnlyWaiting (plan : FlusherPlan) (old new : FlusherWork) : Type 0 where
  pub phase : new.phase ≡ old.phase
  pub batch : new.batch ≡ old.batch
  pub faults : new.faults ≡ old.faults
  pub hard : new.hard ≡ old.hard
  pub tallies : new.tallies ≡ old.tallies
  pub wheel : new.wheel ≡ old.wheel
  pub waiting : length new.waiting.items ≡ length old.waiting.items
  pub places : new.places ≡ old.places

-- the hard limit stays, which inodes wait, the places of inodes, and how many batches the disk failed to write
pub record KeepsRest (old new : FlusherWork) : Type 0 where
  pub faults : new.faults ≡ old.faults
  pub hard : new.hard ≡ old.hard
  pub waiting : new.waiting ≡ old.waiting
  pub some_wait : new.some_wait ≡ old.some_wait
  pub wheel : new.wheel ≡ old.wheel
  pub places : new.places ≡ old.places

-- the inode is put, and waits exactly where the device's queue was full
pub record PutsInode (plan : FlusherPlan) (kit : Kit) (inode : ℕ) (old new : queue.Seats) (was is : FlusherWork) : Type 0 where
  pub full : Bool
  pub puts : PutsWhere kit plan.device inode full old new
  pub waiting : is.waiting.items ≡ set was.waiting.items inode full
  pub some_wait : is.some_wait ≡ (full || was.some_wait)

-- an inode that waits is put, or waits on; `some_now` of those up to it wait on, where `some_before` of those before it do
pub data PutsNext (plan : FlusherPlan) (kit : Kit) (inode : ℕ) (old new : queue.Seats) (was is : List Bool) (some_before some_now : Bool) : Type 0 where
  waits_not : get_or was inode false ≡ false → new ≡ old → is ≡ was → some_now ≡ some_before → PutsNext plan kit inode old new was is some_before some_now
  is_next : (full : Bool) → get_or was inode false ≡ true → PutsWhere kit plan.device inode full old new → is ≡ set was inode full → some_now ≡ (full || some_before)
      → PutsNext plan kit inode old new was is some_before some_now

-- those before one, in order
abbrev pub PutsBefore : (plan : FlusherPlan) (kit : Kit) (inode : ℕ) (old new : queue.Seats) (was is : List Bool) (some_now : Bool) → Type 0
PutsBefore plan kit zero old new was is some_now = (new ≡ old) × (is ≡ was) × (some_now ≡ false)
PutsBefore plan kit (suc inode) old new was is some_now = (mid : queue.Seats) × (between : List Bool) × (some_before : Bool)
    × PutsBefore plan kit inode old mid was between some_before × PutsNext plan kit inode mid new between is some_before some_now

-- ---- answers

-- the CPU holds the pages that the flusher claimed and has neither completed nor given back
abbrev pub HoldsPages : (plan : FlusherPlan) (work : FlusherWork) (seats : Seats) → Type 0
HoldsPages plan work seats = (page : ℕ) → times_in page (pages_by work.batch.items work.phase) ≤ times_in page (record_of plan.cpu seats.cpu.cpus).held

-- it rests, or is ready, and has no batch
pub record IsIdle (work : FlusherWork) : Type 0 where
  pub until : ℕ
  pub kept : Bool
  pub phase : work.phase ≡ Idle until kept
  pub batch : work.batch.items ≡ []

-- nothing is owed to an inode: no mark, and no rescan of one of its pages
pub record OwesInodeNothing (plan : FlusherPlan) (inode : ℕ) (seats : Seats) : Type 0 where
  pub rescans : (page : ℕ) → (inode_at plan inode).first ≤ page → page < end_of plan inode
      → 1 ≤ times_in page (record_of plan.cpu seats.cpu.cpus).owed_rescans → ⊥
  pub mark : 1 ≤ times_in inode (record_of plan.cpu seats.cpu.cpus).owed_marks → ⊥

-- nothing is owed to the scan's inode that the flusher would owe itself
pub record IsPaid (plan : FlusherPlan) (scan : Scan) (seats : Seats) : Type 0 where
  pub rescans : (page : ℕ) → 1 ≤ times_in page (record_of plan.cpu seats.cpu.cpus).owed_rescans → OwesRescan plan (Scanning scan) page → ⊥
  pub marks : (inode : ℕ) → 1 ≤ times_in inode (record_of plan.cpu seats.cpu.cpus).owed_marks → OwesMark (Scanning scan) inode → ⊥

-- ---- parts of what the flusher keeps, and of its seats

-- the context has a part in the domain: the global one, or that of its cgroup
pub record IsPart (plan : FlusherPlan) (domain context : ℕ) : Type 0 where
  pub there : context < length plan.contexts
  pub domain_there : domain < plan.domains
  pub inside : (domain ≡ 0) ⊎ (domain ≡ group_of plan context)

-- nothing but what is kept by context changed
pub record OnlyTallies (old new : FlusherWork) : Type 0 where
  pub phase : new.phase ≡ old.phase
  pub batch : new.batch ≡ old.batch
  pub faults : new.faults ≡ old.faults
  pub hard : new.hard ≡ old.hard
  pub waiting : new.waiting ≡ old.waiting
  pub some_wait : new.some_wait ≡ old.some_wait
  pub wheel : new.wheel ≡ old.wheel
  pub places : new.places ≡ old.places

-- nothing but the notes, stakes and rooms of shares changed
pub record OnlyShare (old new : Seats) : Type 0 where
  pub cpu : new.cpu ≡ old.cpu
  pub est : new.est ≡ old.est
  pub queue : new.queue ≡ old.queue

-- without a batch, and with nothing owed that the flusher would owe itself
pub record IsBare (plan : FlusherPlan) (work : FlusherWork) (seats : Seats) : Type 0 where
  pub batch : work.batch.items ≡ []
  pub lands_none : (context : ℕ) → landed_in plan work.phase context ≡ 0
  pub rescans : (page : ℕ) → 1 ≤ times_in page (record_of plan.cpu seats.cpu.cpus).owed_rescans → OwesRescan plan work.phase page → ⊥
  pub marks : (inode : ℕ) → 1 ≤ times_in inode (record_of plan.cpu seats.cpu.cpus).owed_marks → OwesMark work.phase inode → ⊥
  pub flies_none : phase_by [] work.phase ≡ scanning []

-- nothing but what the pass knows of estimates changed
pub record OnlyEst (old new : Seats) : Type 0 where
  pub cpu : new.cpu ≡ old.cpu
  pub share : new.share ≡ old.share
  pub queue : new.queue ≡ old.queue

-- so many pages more, as far as a number of 64 bits goes
abbrev pub owed_more : (n owed : ℕ) → ℕ
owed_more n owed = min (owed + n) (2 ^ 64 - 1)

-- to be counted, and to be added in both domains
abbrev pub owing_more : (n : ℕ) (old : Tallies) → Tallies
owing_more n old = record {
  written = owed_more n old.written;
  global = record old.global { owed = owed_more n old.global.owed };
  group = record old.group { owed = owed_more n old.group.owed };
}

-- no more is still to be added
pub record OwesNoMore (plan : FlusherPlan) (old new : FlusherWork) : Type 0 where
  pub domains : (domain : ℕ) → domain < plan.domains → owing plan domain new ≤ owing plan domain old
  pub totals : (context : ℕ) → context < length plan.contexts → owing_total plan context new ≤ owing_total plan context old
