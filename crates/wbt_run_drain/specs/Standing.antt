-- Where the sides of all CPUs stand when their seats were brought together, and between any two turns of the drain.
use Rattle.std.specs.Prelude.{◌≡◌, ℕ, ◌+◌, ◌<◌, ◌≤◌, Bool, false, List, [], length, get_or, min, sum_by, count_by, Option, IfSome}
use Rattle.wbt_book.specs.Ledger.{absorbs, all_times, completes, dirties, times_in}
use Rattle.wbt_run_seats.specs.Rooms.{AreBacked}
use Rattle.wbt_flusher.specs.Sights.{OwesMark, OwesRescan, list_by}
use Rattle.wbt_flusher.specs.Turns.{IsIdle, IsSteady}
use Rattle.wbt_flusher.specs.declared.work.Phase.TheVariants.{Failed}
use Rattle.wbt_grant.specs.State.{deeds_of}
use Rattle.wbt_io.specs.Faults.{HasRisenBy, last_count}
use Rattle.wbt_journal.specs.Each.{Each}
use Rattle.wbt_journal.specs.Leaves.{is_fault}
use Rattle.wbt_journal.specs.Machine.{contexts, domains, pages}
use Rattle.wbt_journal.specs.Told.{told as told_by}
use Rattle.wbt_journal.specs.declared.entry.CpuJournal.{CpuJournal}
use Rattle.wbt_kit.specs.Kit.{AreSeatsOf}
use Rattle.wbt_kit.specs.declared.kit.Kit.{Kit}
use Rattle.wbt_kit.specs.declared.kit.Seats.{Seats}
use Rattle.wbt_rules.specs.declared.moments.TheConstants.{MOST_FAULTS}
use Rattle.wbt_fraction.specs.Several.{KeepsStakes}
use Rattle.wbt_run_worker.specs.Side.{ArePosted, HaveEnded as TeamHasEnded, IsDesk}
use Rattle.wbt_run_worker.specs.Team.{AnyOf, Seen, Team, failed_in, owed_in, owed_totals, seen, team_of}
use Rattle.wbt_run_worker.specs.Went.{IsTold}
use Rattle.wbt_run_worker.specs.declared.side.CpuSide.{CpuSide}
use Rattle.wbt_run_worker.specs.declared.side.End.{End}
use Rattle.wbt_run_worker.specs.declared.side.End.TheVariants.{Ended, Halted, Faulted, Spent, Refused, Stopped}
use Rattle.wbt_run_worker.specs.declared.side.Post.{Post}
use Rattle.wbt_run_worker.specs.declared.side.Stand.{Stand}
use Rattle.wbt_run_worker.specs.declared.side.Stand.TheVariants.{Open, Done, Out}
use Rattle.wbt_queue.specs.Passes.{AreAllTaken, known_of}
use Rattle.wbt_run_steps.specs.Queues.{HasAllStakes, PutsMore}
use Rattle.wbt_run_steps.specs.Records.{record_of}
use Rattle.wbt_table.specs.Calls.{HasNoPageSteps, HoldsAll}
use Rattle.wbt_table.specs.Layout.{setting, domains as limits_of}
use Rattle.wbt_trace.specs.declared.trace.Trace.{Trace}
use Rattle.wbt_run_laws.specs.Notes.{Notes}
use Rattle.wbt_run_laws.specs.Shown.{Shown}
use Rattle.wbt_run_drain.specs.Drained.{AreTogether}
use Rattle.wbt_run_drain.specs.Ends.{Any, EndsSo}
use Rattle.wbt_run_drain.specs.Words.{TellsTurns}
use Rattle.wbt_run_drain.specs.Teams.{desks_of, handed_over, logs_of, posts_of, shown_at, teams_of, written_by_all}

-- ---- a flusher

-- The gate said false to the CPU at a number of steps. By its record it has made so many, as far as steps count.
pub record WasStopped (said : ℕ → ℕ → Bool → Type 0) (cpu : ℕ) (seats : Seats) : Type 0 where
  pub steps : ℕ
  pub answer : said cpu steps false
  pub made : min steps last_count ≤ (record_of cpu seats.cpu.cpus).steps

-- the flusher has failed, with the eighth batch that its disk failed to write
pub record HasFailed (p : Seen) : Type 0 where
  pub failed : p.work.phase ≡ Failed
  pub eighth : p.work.faults ≡ MOST_FAULTS

-- why a flusher is turned no more in the drain
abbrev pub OutBy : (said : ℕ → ℕ → Bool → Type 0) (cpu : ℕ) (kit : Kit) (seats : Seats) (end : End) (p : Seen) → Type 0
OutBy said cpu kit seats Halted p = WasStopped said cpu seats
OutBy said cpu kit seats Faulted p = HasFailed p
OutBy said cpu kit seats Spent p = HasNoPageSteps (setting kit.throttle.layout) cpu seats.cpu
OutBy said cpu kit seats Refused p = Unit {0}
OutBy said cpu kit seats Ended p = ⊥
OutBy said cpu kit seats Stopped p = ⊥

-- where a flusher stands: one that is turned may be, one that is done is idle besides, and no inode waits for its age there, one that is out has its
-- cause
abbrev pub StandsSo : (said : ℕ → ℕ → Bool → Type 0) (cpu : ℕ) (kit : Kit) (seats : Seats) (stand : Stand) (p : Seen) → Type 0
StandsSo said cpu kit seats Open p = IsSteady p.plan p.work
StandsSo said cpu kit seats Done p = IsSteady p.plan p.work × IsIdle p.work × (list_by p.work ≡ [])
StandsSo said cpu kit seats (Out end) p = OutBy said cpu kit seats end p

-- it isn't out as one that was halted
abbrev pub NotHalted : {D : Type 0} (post : Post D) → Type 0
NotHalted post = post.stand ≡ Out Halted → ⊥

-- ---- the side of a CPU

-- Where its flushers may be turned: none was halted, the CPU owes no counter, and what it owes of rescans and of marks one of them owes itself.
-- Its tasks have ended.
pub record SideGoesOn {D : Type 0} (said : ℕ → ℕ → Bool → Type 0) (written : D → Option ℕ) (faults : D → ℕ) (trace : Trace) (cpu : ℕ) (kit : Kit) (side : CpuSide D) (seats : Seats)
    : Type 0 where
  pub ended : TeamHasEnded trace (team_of written faults side)
  pub owes_nothing : (record_of cpu seats.cpu.cpus).debts ≡ []
  pub each : Each (λ (post : Post D). StandsSo said cpu kit seats post.stand (seen written faults post)) side.posts.items
  pub none_halted : Each NotHalted side.posts.items
  pub rescans : (page : ℕ) → 1 ≤ times_in page (record_of cpu seats.cpu.cpus).owed_rescans
      → AnyOf (λ (p : Seen). OwesRescan p.plan p.work.phase page) (posts_of written faults side.posts.items)
  pub marks : (inode : ℕ) → 1 ≤ times_in inode (record_of cpu seats.cpu.cpus).owed_marks
      → AnyOf (λ (p : Seen). OwesMark p.work.phase inode) (posts_of written faults side.posts.items)

-- why the side ended, and what may follow
abbrev pub EndsBy : {D : Type 0} (said : ℕ → ℕ → Bool → Type 0) (written : D → Option ℕ) (faults : D → ℕ) (trace : Trace) (cpu : ℕ) (kit : Kit) (end : End) (side : CpuSide D)
    (seats : Seats) → Type 0
EndsBy {D} said written faults trace cpu kit Ended side seats = SideGoesOn said written faults trace cpu kit side seats
EndsBy {D} said written faults trace cpu kit Halted side seats = WasStopped said cpu seats
EndsBy {D} said written faults trace cpu kit Faulted side seats = AnyOf HasFailed (posts_of written faults side.posts.items)
EndsBy {D} said written faults trace cpu kit Spent side seats = HasNoPageSteps (setting kit.throttle.layout) cpu seats.cpu
EndsBy {D} said written faults trace cpu kit Refused side seats = Unit {0}
EndsBy {D} said written faults trace cpu kit Stopped side seats = Unit {0}

-- The log tells as many faults as the flushers count failures; and each disk counts as many faults as its flusher failures at least, as far as
-- counts go.
pub record FaultsAreTold (posts : List Seen) (log : CpuJournal) : Type 0 where
  pub faults : failed_in posts ≡ count_by is_fault (told_by log)
  pub each : Each (λ (p : Seen). HasRisenBy p.work.faults 0 p.faults) posts

-- The side of a CPU whose record the seats have. Its writers and flushers are the CPU's; what its disks failed to write is told, and so is a
-- flusher that has failed.
pub record SideStands {D : Type 0} (said : ℕ → ℕ → Bool → Type 0) (written : D → Option ℕ) (faults : D → ℕ) (trace : Trace) (cpu : ℕ) (kit : Kit) (side : CpuSide D) (seats : Seats)
    : Type 0 where
  pub desk : IsDesk trace cpu kit side.writers
  pub posted : ArePosted trace cpu kit (posts_of written faults side.posts.items) seats
  pub ends : EndsBy said written faults trace cpu kit side.end side seats
  pub outs : Each (λ (post : Post D). (end : End) → post.stand ≡ Out end → OutBy said cpu kit seats end (seen written faults post)) side.posts.items
  pub failed : AnyOf (λ (p : Seen). p.work.phase ≡ Failed) (posts_of written faults side.posts.items) → EndsSo Faulted side
  pub told : FaultsAreTold (posts_of written faults side.posts.items) side.log

-- ---- queues

-- one of the flushers is the device's
abbrev pub HasFlusher : (device : ℕ) (teams : List Team) → Type 0
HasFlusher device teams = Any (λ (team : Team). AnyOf (λ (p : Seen). p.plan.device ≡ device) team.posts) teams

-- each flusher of the device is done
abbrev pub AreDoneAt : {D : Type 0} (device : ℕ) (sides : List (CpuSide D)) → Type 0
AreDoneAt {D} device sides = Each (λ (side : CpuSide D). Each (λ (post : Post D). post.flusher.plan.device ≡ device → post.stand ≡ Done) side.posts.items) sides

-- of each device each number that was ever put into its queue was taken, just as often
abbrev pub NothingWaits : (trace : Trace) (seats : Seats) → Type 0
NothingWaits trace seats = (device : ℕ) → device < length trace.devices → AreAllTaken (known_of device seats.queue)

-- no inode waits for its age at any flusher
abbrev pub NoneWaitsForAge : {D : Type 0} (sides : List (CpuSide D)) → Type 0
NoneWaitsForAge {D} sides = Each (λ (side : CpuSide D). Each (λ (post : Post D). list_by post.flusher.work ≡ []) side.posts.items) sides

-- The pass has all stakes of each device's queue, so it knows each put and each take. Each device has a flusher; and where all of them are done
-- each number that was put was taken.
pub record AreQueued {D : Type 0} (written : D → Option ℕ) (faults : D → ℕ) (trace : Trace) (kit : Kit) (sides : List (CpuSide D)) (seats : Seats) : Type 0 where
  pub stakes : HasAllStakes kit.queues seats.queue
  pub many : length kit.queues.sizes ≡ length trace.devices
  pub flushers : (device : ℕ) → device < length trace.devices → HasFlusher device (teams_of written faults sides)
  pub emptied : (device : ℕ) → device < length trace.devices → AreDoneAt device sides → AreAllTaken (known_of device seats.queue)

-- ---- all of them

-- what all CPUs told, showed and noted, where the notes of the timer stand apart
pub record HaveTold (trace : Trace) (kit : Kit) (teams : List Team) (logs : List CpuJournal) (seats : Seats) : Type 0 where
  pub first : ℕ → Seats
  pub last : ℕ → Shown
  pub notes : ℕ → Notes
  pub shows : (cpu : ℕ) (other : Team) → cpu < trace.cpus → last cpu ≡ shown_at trace cpu (get_or teams cpu other) seats
  pub together : AreTogether trace kit.published.moment kit first (λ domain. []) logs last notes seats

-- each CPU's log tells turns, the last of which may be cut off where its side was halted
abbrev pub TellTurns : {D : Type 0} (kit : Kit) (cpus : ℕ) (sides : List (CpuSide D)) (seats : Seats) → Type 0
TellTurns {D} kit cpus sides seats =
    (cpu : ℕ) (other : CpuSide D) → cpu < cpus → TellsTurns (limits_of kit.throttle.layout) cpu (get_or sides cpu other).end seats

-- The sides of all CPUs in order, on seats that hold all. The clock told each moment in their logs; where all disks tell it, they have written
-- just the pages of the batches; rooms and completions back what all flushers are still to add; the queues are known; and each CPU's log tells
-- turns, one after another.
pub record AreStanding {D : Type 0} (told : ℕ → Type 0) (said : ℕ → ℕ → Bool → Type 0) (written : D → Option ℕ) (faults : D → ℕ) (trace : Trace) (kit : Kit)
    (sides : List (CpuSide D)) (seats : Seats) : Type 0 where
  pub many : length sides ≡ trace.cpus
  pub seats_are : AreSeatsOf kit seats
  pub all_held : HoldsAll seats.cpu
  pub told_all : HaveTold trace kit (teams_of written faults sides) (logs_of sides) seats
  pub each : (cpu : ℕ) (other : CpuSide D) → cpu < trace.cpus → SideStands said written faults trace cpu kit (get_or sides cpu other) seats
  pub backed : AreBacked (domains trace) (contexts trace) (λ domain. sum_by (λ (team : Team). owed_in team.posts domain) (teams_of written faults sides))
      (λ context. sum_by (λ (team : Team). owed_totals team.posts context) (teams_of written faults sides)) seats
  pub moments : Each (λ (side : CpuSide D). Each (IsTold told) (told_by side.log)) sides
  pub disks : IfSome (written_by_all (teams_of written faults sides)) (λ total. total ≡ handed_over (logs_of sides))
  pub queued : AreQueued written faults trace kit sides seats
  pub turns : TellTurns kit trace.cpus sides seats

-- ---- what the drain does

-- by the records that the seats have, each dirtying of the page was completed or absorbed
abbrev pub IsCleanedIn : (trace : Trace) (seats : Seats) (page : ℕ) → Type 0
IsCleanedIn trace seats page =
    all_times trace.cpus (dirties page) (λ cpu. deeds_of (record_of cpu seats.cpu.cpus))
    ≤ all_times trace.cpus (completes page) (λ cpu. deeds_of (record_of cpu seats.cpu.cpus)) + all_times trace.cpus (absorbs page) (λ cpu. deeds_of (record_of cpu seats.cpu.cpus))

-- no side ended as it was told to stop
abbrev pub NoneStopped : {D : Type 0} (sides : List (CpuSide D)) → Type 0
NoneStopped {D} sides = (cpu : ℕ) (other : CpuSide D) → cpu < length sides → (get_or sides cpu other).end ≡ Stopped → ⊥

-- The writers did nothing, nor did the timer, and no stake was moved. A page of which each dirtying was completed or absorbed is such still.
pub record WentOn {D : Type 0} (trace : Trace) (old new : List (CpuSide D)) (seats seats' : Seats) : Type 0 where
  pub desks : desks_of new ≡ desks_of old
  pub timer : seats'.cpu.timer ≡ seats.cpu.timer
  pub timer_log : seats'.cpu.timer_log ≡ seats.cpu.timer_log
  pub stakes : KeepsStakes seats.share.domains seats'.share.domains
  pub total_stakes : seats'.share.totals.stakes ≡ seats.share.totals.stakes
  pub cleaned : (page : ℕ) → IsCleanedIn trace seats page → IsCleanedIn trace seats' page
  -- no side is told to stop that wasn't
  pub stopped : NoneStopped old → NoneStopped new
  -- what was put into a device's queue before stands before what was put meanwhile
  pub puts : (device : ℕ) → PutsMore (known_of device seats.queue) (known_of device seats'.queue)

-- each flusher is done
abbrev pub AreAllDone : {D : Type 0} (sides : List (CpuSide D)) → Type 0
AreAllDone {D} sides = Each (λ (side : CpuSide D). Each (λ (post : Post D). post.stand ≡ Done) side.posts.items) sides

-- each dirtying of each page was completed or absorbed
abbrev pub AreAllCleaned : (trace : Trace) (seats : Seats) → Type 0
AreAllCleaned trace seats = (page : ℕ) → page < pages trace → IsCleanedIn trace seats page
