-- What calls did, one after another: how the record, the notes and the log grew, and what stayed.
use Rattle.std.specs.Prelude.{◌≡◌, ℕ, ◌+◌, ◌*◌, ◌^◌, ◌<◌, ◌≤◌, ◌⊎◌, Bool, true, false, List, [], length, sum_by, Contains, Option, Some, None, IfSome}
use Rattle.wbt_num.specs.declared.most.TheConstants.{MOST_PAGE_STEPS}
use Rattle.wbt_book.specs.Ledger.{times_in}
use Rattle.wbt_fraction.specs.Several.{KeepsStakes, room_in}
use Rattle.wbt_fraction.specs.Totals.{room_of}
use Rattle.wbt_grant.specs.declared.record.CpuRecord.{CpuRecord}
use Rattle.wbt_io.specs.Pages.{Grows}
use Rattle.wbt_table.specs.Rule.{Cpus, Has, Holds}
use Rattle.wbt_trace.specs.declared.trace.Trace.{Trace}
use Rattle.wbt_journal.specs.Each.{Each}
use Rattle.wbt_journal.specs.Effects.{Flight, Wait, WaitMove, notices, ages, takes_first, effect, handed_by, moment_of, of_part}
use Rattle.wbt_journal.specs.Told.{Told}
use Rattle.wbt_journal.specs.declared.entry.EstEntry.{EstEntry}
use Rattle.wbt_run_laws.specs.Log.{Logged}
use Rattle.wbt_run_laws.specs.Noted.{NotedFlusherTurn}
use Rattle.wbt_run_laws.specs.Worker.{Worker}
use Rattle.wbt_kit.specs.Kit.{AreSeatsOf}
use Rattle.wbt_kit.specs.declared.kit.Kit.{Kit}
use Rattle.wbt_kit.specs.declared.kit.Seats.{Seats}
use Rattle.wbt_run_steps.specs.Records.{IsApart, record_of}
use Rattle.wbt_run_steps.specs.Steps as steps
use Rattle.wbt_flusher.specs.Plans.{IsWork, context_at}
use Rattle.wbt_flusher.specs.Sights.{Sight, sight, record_in, pages_in, OwesRescan, OwesMark, shown_of, notes_of, completions, all_completions, held_cpus, owing, owing_total}
use Rattle.wbt_flusher.specs.declared.plan.FlusherPlan.{FlusherPlan}
use Rattle.wbt_flusher.specs.declared.work.FlusherWork.{FlusherWork}
use Rattle.wbt_journal.specs.declared.entry.CpuJournal.{CpuJournal}
use Rattle.wbt_published.specs.Passes.{known_of}

-- ---- moments and pages of entries

-- moments that a clock told: those of batches; and those of idle turns, at which estimates are updated, and inodes noticed, and taken for their age
pub record Moments : Type 0 where
  pub batches : List ℕ
  pub estimates : List ℕ

-- no moment was told
abbrev pub no_moments : Moments
no_moments = record { batches = []; estimates = [] }

-- the moment at which a flusher noticed an inode, or took it for its age
abbrev pub waited_at : (move : WaitMove) → Option ℕ
waited_at (notices inode since) = Some since
waited_at (ages inode due now) = Some now
waited_at (takes_first inode) = None

-- the moment that an entry tells is one of these
pub record IsTimed (told : Moments) (entry : Told) : Type 0 where
  pub batch : IfSome (effect entry).flight (λ (flight : Flight). IfSome (moment_of flight.move) (λ now. Contains told.batches now))
  pub estimate : IfSome (effect entry).estimate (λ (est : EstEntry). Contains told.estimates est.estimate.at)
  pub wait : IfSome (effect entry).wait (λ (wait : Wait). IfSome (waited_at wait.move) (λ now. Contains told.estimates now))

-- the pages that an entry handed to the disk
abbrev pub handed : (entry : Told) → ℕ
handed entry = of_part 0 (λ (flight : Flight). handed_by flight.move) (effect entry).flight

-- ---- the whole

-- Calls of a flusher told these entries, and nothing else: the record got just their folds and events, the disk their pages, shares
-- and estimates what they tell. A page is held as before where it isn't the flusher's before or after. What the CPU owes of marks and
-- rescans it owed before, and the flusher not itself, or the flusher owes it itself now.
pub record Did (plan : FlusherPlan) (kit : Kit) (told : Moments) (old new : Sight) : Type 0 where
  pub added : List Told
  pub logged : Logged added old.log new.log
  pub turn : (trace : Trace) → IsWork trace plan kit → (base : Worker)
      → NotedFlusherTurn trace kit.published.moment plan.cpu plan.flusher added (shown_of plan base old) (shown_of plan base new)
      (notes_of base old) (notes_of base new)
  pub moments : Each (IsTimed told) added
  pub pages : Grows (Some (sum_by handed added)) old.written new.written
  pub apart : IsApart plan.cpu old.seats.cpu new.seats.cpu
  pub writers : (record_in plan new).writers ≡ (record_in plan old).writers
  pub held : (page : ℕ) → times_in page (record_in plan new).held + times_in page (pages_in old)
      ≡ times_in page (record_in plan old).held + times_in page (pages_in new)
  pub rescans : (page : ℕ) → 1 ≤ times_in page (record_in plan new).owed_rescans
      → OwesRescan plan new.work.phase page
      ⊎ ((1 ≤ times_in page (record_in plan old).owed_rescans) × (OwesRescan plan old.work.phase page → ⊥))
  pub marks : (inode : ℕ) → 1 ≤ times_in inode (record_in plan new).owed_marks
      → OwesMark new.work.phase inode
      ⊎ ((1 ≤ times_in inode (record_in plan old).owed_marks) × (OwesMark old.work.phase inode → ⊥))
  -- what may be added and was completed, less what is still to be added, doesn't fall
  pub rooms : (domain : ℕ) → domain < plan.domains
      → room_in domain old.seats.share.domains + all_completions old.seats.cpu.cpus + owing plan domain new.work
      ≤ room_in domain new.seats.share.domains + all_completions new.seats.cpu.cpus + owing plan domain old.work
  pub totals : (context : ℕ) → context < length plan.contexts
      → room_of context old.seats.share.totals.rooms + all_completions old.seats.cpu.cpus + owing_total plan context new.work
      ≤ room_of context new.seats.share.totals.rooms + all_completions new.seats.cpu.cpus + owing_total plan context old.work
  -- and stakes stay
  pub stakes : KeepsStakes old.seats.share.domains new.seats.share.domains
  pub total_stakes : new.seats.share.totals.stakes ≡ old.seats.share.totals.stakes

-- ---- rooms

-- no CPU completed more pages than it may
pub record AreCounted (cpus : Cpus) : Type 0 where
  pub each : (c : ℕ) (r : CpuRecord) → Has cpus c r → completions r ≤ r.page_steps
  pub few : (c : ℕ) (r : CpuRecord) → Has cpus c r → r.page_steps ≤ MOST_PAGE_STEPS

-- 2^33 of each room for each CPU is backed
pub record HasRooms (plan : FlusherPlan) (work : FlusherWork) (seats : Seats) : Type 0 where
  pub counted : AreCounted seats.cpu.cpus
  pub rooms : (domain : ℕ) → domain < plan.domains
      → owing plan domain work + held_cpus seats.cpu.cpus * 2 ^ 33 ≤ room_in domain seats.share.domains + all_completions seats.cpu.cpus
  pub totals : (context : ℕ) → context < length plan.contexts
      → owing_total plan context work + held_cpus seats.cpu.cpus * 2 ^ 33 ≤ room_of context seats.share.totals.rooms + all_completions seats.cpu.cpus

-- ---- seats

-- a context of the flusher's device
pub record IsMeasured (plan : FlusherPlan) (context : ℕ) : Type 0 where
  pub leads : plan.leads ≡ true
  pub of_device : (context_at plan context).device ≡ plan.device

-- seats at the kit that hold the flusher's CPU; those of a device's first flusher publish for the device's contexts
pub record Fits (plan : FlusherPlan) (kit : Kit) (seats : Seats) : Type 0 where
  pub seats_are : AreSeatsOf kit seats
  pub held : (r : CpuRecord) × Has seats.cpu.cpus plan.cpu r
  pub publishes : (context : ℕ) → IsMeasured plan context → (known_of context seats.est).publishes ≡ true

-- ---- calls that leave parts as they are

-- calls that tell nothing, whatever the flusher keeps
abbrev pub Quiet : (plan : FlusherPlan) (kit : Kit) (old new : Seats) → Type 0
Quiet plan kit old new = (told : Moments) (work : FlusherWork) (log : CpuJournal) (written : Option ℕ)
    → Did plan kit told (sight work old log written) (sight work new log written)

-- calls that change what the flusher keeps, and leave its disk
abbrev pub Works : (plan : FlusherPlan) (kit : Kit) (old new : Seats) (before behind : CpuJournal) (was is : FlusherWork) → Type 0
Works plan kit old new before behind was is = (told : Moments) (written : Option ℕ)
    → Did plan kit told (sight was old before written) (sight is new behind written)

-- the flusher's CPU owes counters what it owed, or nothing
abbrev pub KeepsDebts : (plan : FlusherPlan) (old new : Seats) → Type 0
KeepsDebts plan old new = (record_of plan.cpu new.cpu.cpus).debts ≡ (record_of plan.cpu old.cpu.cpus).debts

-- the flusher's CPU owes no counter
abbrev pub OwesNothing : (plan : FlusherPlan) (seats : Seats) → Type 0
OwesNothing plan seats = (record_of plan.cpu seats.cpu.cpus).debts ≡ []

-- the gate said false to the flusher's CPU
abbrev pub IsStopped : (plan : FlusherPlan) (said : ℕ → ℕ → Bool → Type 0) (seats : Seats) → Type 0
IsStopped plan said seats = Holds seats.cpu.cpus plan.cpu (λ r. said plan.cpu r.steps false)

-- what the flusher's CPU owes it owes to counters that there are, one thing at most to each
abbrev pub AreOwed : (plan : FlusherPlan) (kit : Kit) (seats : Seats) → Type 0
AreOwed plan kit seats = steps.AreOwed plan.cpu kit seats
