-- The sides of a run before the first turn, with the disks that were lent to them.
use Rattle.std.specs.Prelude.{◌≡◌, ℕ, ◌+◌, ◌<◌, ◌==◌, if◌then◌else◌, false, List, [], ◌∷◌, length, map, get_or, replicate, Option, IfSome}
use Rattle.wbt_run_seats.specs.Opened.{IsFirstPart, first_notes}
use Rattle.wbt_run_seats.specs.Parts.{IsPart}
use Rattle.wbt_flusher.specs.Plans.{IsPlanOf}
use Rattle.wbt_flusher.specs.Sights.{first_tallies, list_by}
use Rattle.wbt_flusher.specs.Turns.{IsSteady}
use Rattle.wbt_flusher.specs.declared.work.Phase.TheVariants.{Idle}
use Rattle.wbt_journal.specs.Each.{Each}
use Rattle.wbt_journal.specs.Machine.{pages}
use Rattle.wbt_journal.specs.Side.{first_side}
use Rattle.wbt_kit.specs.declared.kit.Kit.{Kit}
use Rattle.wbt_kit.specs.declared.kit.Seats.{Seats}
use Rattle.wbt_run_worker.specs.Side.{IsSide}
use Rattle.wbt_run_worker.specs.Team.{Seen, Team, team_of, worker_of}
use Rattle.wbt_run_worker.specs.declared.side.CpuSide.{CpuSide}
use Rattle.wbt_run_worker.specs.declared.side.End.TheVariants.{Ended}
use Rattle.wbt_run_worker.specs.declared.side.Post.{Post}
use Rattle.wbt_run_worker.specs.declared.side.Stand.TheVariants.{Open}
use Rattle.wbt_run_worker.specs.declared.worker.Worker.{Worker}
use Rattle.wbt_table.specs.Layout.{setting}
use Rattle.wbt_trace.specs.declared.trace.FlusherLine.{FlusherLine}
use Rattle.wbt_trace.specs.declared.trace.Trace.{Trace}
use Rattle.wbt_run_laws.specs.Notes.{no_fraction}
use Rattle.wbt_run_laws.specs.Shown.{first_shown}
use Rattle.wbt_run_laws.specs.Worker as turns
use Rattle.wbt_run_laws.specs.Worker.{empty_log}
use Rattle.wbt_run_steps.specs.Records.{firsts_of}
use Rattle.wbt_writer.specs.Counted.{IsFor, side_of, written_of}
use Rattle.wbt_writer.specs.Desk.{Desk, HaveLefts, kept_in, record_in}
use Rattle.wbt_run_drain.specs.Teams.{worker_there}

-- ---- the flushers of a CPU

-- the numbers of a CPU's flushers, in order
abbrev pub numbers_on : (cpu number : ℕ) (flushers : List FlusherLine) → List ℕ
numbers_on cpu number [] = []
numbers_on cpu number (line ∷ more) = if line.cpu == cpu then number ∷ numbers_on cpu (number + 1) more else numbers_on cpu (number + 1) more

-- a flusher of the trace and of the CPU, idle and ready, which owes nothing, and with no inode that waits for its age; its disk has no fault, of which it counts none, and where it tells
-- pages it has written none
pub record IsFirstPost (trace : Trace) (cpu : ℕ) (p : Seen) : Type 0 where
  pub of : IsPlanOf trace p.plan
  pub cpu_is : p.plan.cpu ≡ cpu
  pub pages_are : p.plan.pages ≡ pages trace
  pub steady : IsSteady p.plan p.work
  pub idle : p.work.phase ≡ Idle 0 false
  pub owes_none : p.work.tallies.items ≡ replicate (length p.plan.contexts) first_tallies
  pub none_waits : list_by p.work ≡ []
  pub unwritten : IfSome p.written (λ count. count ≡ 0)
  pub faultless : p.faults ≡ 0
  pub counts_none : p.work.faults ≡ 0

-- just the CPU's flushers, in order by number
pub record AreFirstPosts (trace : Trace) (cpu : ℕ) (posts : List Seen) : Type 0 where
  pub each : Each (IsFirstPost trace cpu) posts
  pub numbers : map (λ (p : Seen). p.plan.flusher) posts ≡ numbers_on cpu 0 trace.flushers

-- a post with its flusher's number, which is turned in the drain
pub record IsOpen {D : Type 0} (post : Post D) : Type 0 where
  pub number : post.number ≡ post.flusher.plan.flusher
  pub stands : post.stand ≡ Open

-- ---- the writers of a CPU

-- the writers of the CPU, of whom none has begun, where the global domain has the limit of that moment
pub record IsFirstDesk (trace : Trace) (now cpu : ℕ) (desk : Desk) : Type 0 where
  pub trace_is : desk.trace ≡ trace
  pub cpu_is : desk.cpu ≡ cpu
  pub its : IsFor trace now cpu desk.work.tasks
  pub side : side_of desk.work.tasks ≡ first_side trace
  pub written : (task : ℕ) → written_of desk.work.tasks task ≡ 0
  pub kept : (domain context : ℕ) → kept_in trace desk.work domain context ≡ no_fraction
  pub lefts : (kit : Kit) (seats : Seats) → (setting kit.throttle.layout).cap ≡ trace.cap → (record_in cpu seats).writers ≡ []
      → HaveLefts trace cpu kit desk.work.tasks seats

-- ---- sides

-- the side of a CPU before its first turn
pub record IsFirstTeam (trace : Trace) (now cpu : ℕ) (team : Team) : Type 0 where
  pub desk : IsFirstDesk trace now cpu team.desk
  pub posts : AreFirstPosts trace cpu team.posts
  pub log : team.log ≡ empty_log

-- the side of a CPU before its first turn, with its posts open
pub record IsFirstSide {D : Type 0} (written : D → Option ℕ) (faults : D → ℕ) (trace : Trace) (now cpu : ℕ) (side : CpuSide D) : Type 0 where
  pub team : IsFirstTeam trace now cpu (team_of written faults side)
  pub opens : Each IsOpen side.posts.items
  pub end : side.end ≡ Ended

-- one for each CPU in order
pub record AreFirstSides {D : Type 0} (written : D → Option ℕ) (faults : D → ℕ) (trace : Trace) (now : ℕ) (sides : List (CpuSide D)) : Type 0 where
  pub many : length sides ≡ trace.cpus
  pub each : (cpu : ℕ) (other : CpuSide D) → cpu < trace.cpus → IsFirstSide written faults trace now cpu (get_or sides cpu other)

-- ---- workers

-- what a worker is to the laws of turns before its first one
abbrev pub first_worker : (trace : Trace) (part : Seats) → turns.Worker
first_worker trace part = record { shown = first_shown trace (firsts_of part); notes = first_notes part; log = empty_log }

-- The worker of a CPU before its first turn. Its seats are the CPU's part of the first ones; its side may take a turn there, and shows
-- and noted nothing yet.
pub record IsFirstWorker {D : Type 0} (written : D → Option ℕ) (faults : D → ℕ) (trace : Trace) (now : ℕ) (kit : Kit) (first : Seats) (cpu : ℕ) (worker : Worker D)
    : Type 0 where
  pub part : IsPart kit cpu first worker.seats
  pub first_part : IsFirstPart kit cpu worker.seats
  pub is_first : IsFirstSide written faults trace now cpu worker.side
  pub side : IsSide trace cpu kit (team_of written faults worker.side) worker.seats
  pub worker_is : worker_there trace (worker_of trace cpu (team_of written faults worker.side) worker.seats) ≡ first_worker trace worker.seats

-- one for each CPU in order
pub record AreFirstWorkers {D : Type 0} (written : D → Option ℕ) (faults : D → ℕ) (trace : Trace) (now : ℕ) (kit : Kit) (first : Seats) (workers : List (Worker D))
    : Type 0 where
  pub many : length workers ≡ trace.cpus
  pub each : (cpu : ℕ) (other : Worker D) → cpu < trace.cpus → IsFirstWorker written faults trace now kit first cpu (get_or workers cpu other)

-- each has the part and the side at its place
abbrev pub ArePut : {D : Type 0} (parts : List Seats) (sides : List (CpuSide D)) (workers : List (Worker D)) → Type 0
ArePut {D} parts sides workers = (map (λ (worker : Worker D). worker.seats) workers ≡ parts) × (map (λ (worker : Worker D). worker.side) workers ≡ sides)
