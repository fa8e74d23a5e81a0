-- What holds of a CPU's writers and flushers, and of the seats that they work on, between two turns.
use Rattle.std.specs.Prelude.{◌≡◌, ℕ, ◌≤◌, true, List, length}
use Rattle.wbt_book.specs.Ledger.{times_in}
use Rattle.wbt_run_seats.specs.Rooms.{AreBacked}
use Rattle.wbt_flusher.specs.Did.{IsMeasured}
use Rattle.wbt_flusher.specs.Plans.{IsWork, Suits}
use Rattle.wbt_flusher.specs.Sights.{OwesMark, OwesRescan}
use Rattle.wbt_flusher.specs.Turns.{IsSteady}
use Rattle.wbt_flusher.specs.declared.work.Phase.TheVariants.{Failed}
use Rattle.wbt_journal.specs.Each.{Each}
use Rattle.wbt_journal.specs.Machine.{contexts, domains}
use Rattle.wbt_kit.specs.declared.kit.Kit.{Kit}
use Rattle.wbt_kit.specs.declared.kit.Seats.{Seats}
use Rattle.wbt_published.specs.Passes as est
use Rattle.wbt_published.specs.Passes.{known_of}
use Rattle.wbt_run_steps.specs.Records.{record_of}
use Rattle.wbt_trace.specs.declared.trace.Trace.{Trace}
use Rattle.wbt_writer.specs.Choice.{AllEnded}
use Rattle.wbt_writer.specs.Desk.{Desk, Fits, IsAtKit, IsReady}
use Rattle.wbt_writer.specs.Over.{IsAllDone}
use Rattle.wbt_writer.specs.declared.tasks.Tasks.{Tasks}
use Rattle.wbt_run_worker.specs.Team.{AnyOf, AreApart, Seen, Team, claimed_in, owed_in, owed_totals}

-- a flusher of the trace and of the CPU, which publishes for its device's contexts where it is the device's first
pub record IsPost (trace : Trace) (cpu : ℕ) (kit : Kit) (pass : est.Seats) (p : Seen) : Type 0 where
  pub its : IsWork trace p.plan kit
  pub suits : Suits p.plan kit
  pub cpu_is : p.plan.cpu ≡ cpu
  pub publishes : (context : ℕ) → IsMeasured p.plan context → (known_of context pass).publishes ≡ true

-- the writers are those of the CPU of the trace
pub record IsDesk (trace : Trace) (cpu : ℕ) (kit : Kit) (desk : Desk) : Type 0 where
  pub trace_is : desk.trace ≡ trace
  pub cpu_is : desk.cpu ≡ cpu
  pub at_kit : IsAtKit desk kit

-- The flushers of a CPU, after any turn of theirs: each is of the trace and of the CPU, and they have numbers of their own. The CPU holds
-- just the pages that they claimed, and neither completed nor gave back, so none where none of them has a batch.
pub record ArePosted (trace : Trace) (cpu : ℕ) (kit : Kit) (posts : List Seen) (seats : Seats) : Type 0 where
  pub each : Each (IsPost trace cpu kit seats.est) posts
  pub apart : AreApart posts
  pub held : (page : ℕ) → times_in page (record_of cpu seats.cpu.cpus).held ≡ claimed_in page posts

-- Where the next turn may follow, besides: each stands where it may, and what the CPU owes of rescans and of marks one of them owes
-- itself. So where none of them scans the CPU owes none.
pub record AreSteady (cpu : ℕ) (posts : List Seen) (seats : Seats) : Type 0 where
  pub each : Each (λ (p : Seen). IsSteady p.plan p.work) posts
  pub rescans : (page : ℕ) → 1 ≤ times_in page (record_of cpu seats.cpu.cpus).owed_rescans → AnyOf (λ (p : Seen). OwesRescan p.plan p.work.phase page) posts
  pub marks : (inode : ℕ) → 1 ≤ times_in inode (record_of cpu seats.cpu.cpus).owed_marks → AnyOf (λ (p : Seen). OwesMark p.work.phase inode) posts

-- What holds after any turn, whatever it answered. The writers and the flushers are the CPU's, which the seats hold; and rooms and
-- completions back what all flushers together are still to add.
pub record Stands (trace : Trace) (cpu : ℕ) (kit : Kit) (team : Team) (seats : Seats) : Type 0 where
  pub desk : IsDesk trace cpu kit team.desk
  pub fits : Fits cpu kit seats
  pub posted : ArePosted trace cpu kit team.posts seats
  pub backed : AreBacked (domains trace) (contexts trace) (owed_in team.posts) (owed_totals team.posts) seats

-- Where the next turn may follow, besides: the writers are ready, and the flushers stand where they may.
pub record IsSide (trace : Trace) (cpu : ℕ) (kit : Kit) (team : Team) (seats : Seats) : Type 0 where
  pub stands : Stands trace cpu kit team seats
  pub writers : IsReady team.desk kit seats
  pub steady : AreSteady cpu team.posts seats

-- every task of the CPU has ended: nothing is due, and each has written all its pages
pub record HasEnded (trace : Trace) (tasks : Tasks) : Type 0 where
  pub all : AllEnded tasks 0 (length tasks.tasks.items)
  pub done : IsAllDone trace tasks

-- every task of the team's CPU has ended
abbrev pub HaveEnded : (trace : Trace) (team : Team) → Type 0
HaveEnded trace team = HasEnded trace team.desk.work.tasks

-- no flusher has failed
abbrev pub NoneFailed : (posts : List Seen) → Type 0
NoneFailed posts = Each (λ (p : Seen). p.work.phase ≡ Failed → ⊥) posts
