-- The workers of a run on parts of the first seats, and what they leave when their seats are together again.
use Rattle.std.specs.Prelude.{◌≡◌, ℕ, ◌<◌, ◌++◌, false, List, length, Option}
use Rattle.wbt_run_seats.specs.Parts.{IsLeft, noted}
use Rattle.wbt_fraction.specs.Notes.{IsComplete}
use Rattle.wbt_fraction.specs.Several.{AllJoined, IsSeatOf, KeepsStakes, Seats as ShareSeats}
use Rattle.wbt_journal.specs.Each.{Each}
use Rattle.wbt_journal.specs.Machine.{contexts}
use Rattle.wbt_journal.specs.declared.timer.TimerEntry.{TimerEntry}
use Rattle.wbt_kit.specs.Kit.{AreFirst, AreSeatsOf}
use Rattle.wbt_rules.specs.Thresholds.{first_limits}
use Rattle.wbt_kit.specs.declared.kit.Kit.{Kit}
use Rattle.wbt_kit.specs.declared.kit.Seats.{Seats}
use Rattle.wbt_published.specs.Passes.{known_of, Seats as EstPass}
use Rattle.wbt_run_worker.specs.Ticking.{LimitsAreTold}
use Rattle.wbt_run_worker.specs.declared.worker.Worker.{Worker}
use Rattle.wbt_timer.specs.Side.{IsFirstSide, IsTimerOf, Side}
use Rattle.wbt_trace.specs.declared.trace.Trace.{Trace}
use Rattle.wbt_run_laws.specs.Closed.{opening_lines}
use Rattle.wbt_run_laws.specs.Ticks.{Ticked}
use Rattle.wbt_table.specs.Layout.{domains as limits_of}
use Rattle.wbt_run_drain.specs.Whole.{TimerWorked}
use Rattle.wbt_run_drain.specs.Words.{TimerTellsTurns}
use Rattle.wbt_run_first.specs.Lent.{AreFirstWorkers}

-- ---- before the first turn

-- of some first seats each worker has its CPU's part, and what is left of them is the timer's
pub record AreSeated {D : Type 0} (written : D → Option ℕ) (faults : D → ℕ) (trace : Trace) (now : ℕ) (kit : Kit) (workers : List (Worker D)) (left : Seats) : Type 0 where
  pub first : Seats
  pub first_at : AreSeatsOf kit first
  pub are_first : AreFirst kit first
  pub workers_are : AreFirstWorkers written faults trace now kit first workers
  pub left_is : IsLeft kit trace.cpus first left

-- the timer is the trace's at its opening, whose limits it has logged
pub record IsFirstTimer (trace : Trace) (now : ℕ) (side : Side) (log : List TimerEntry) : Type 0 where
  pub its : IsTimerOf trace side
  pub is_first : IsFirstSide trace now side
  pub logged : log ≡ opening_lines trace now (first_limits trace now)

-- ---- after the last one

-- The timer's log tells what it did since the opening, at moments that were told, and the seats have its record, and a log of its turns; what it
-- noted of shares stands apart.
pub record HasTicked (told : ℕ → Type 0) (trace : Trace) (now : ℕ) (kit : Kit) (log : List TimerEntry) (apart : ShareSeats) (seats : Seats) : Type 0 where
  pub last : Ticked
  pub worked : TimerWorked trace now kit log last seats
  pub shares : (domain : ℕ) → last.shares domain ≡ noted apart domain
  pub ticks : List TimerEntry
  pub logged : log ≡ opening_lines trace now (first_limits trace now) ++ ticks
  pub moments : Each (LimitsAreTold told) ticks
  pub turns : TimerTellsTurns (limits_of kit.throttle.layout) seats

-- the timer's notes that take in those of the CPUs are all that were ever made, where the CPUs kept their stakes up to then
abbrev pub MakeAll : (kit : Kit) (timer cpus : ShareSeats) → Type 0
MakeAll kit timer cpus = (later all : ShareSeats) → KeepsStakes cpus.domains later.domains → AllJoined timer.domains later.domains all.domains → IsSeatOf kit.shares all
    → (domain : ℕ) → domain < length kit.shares.domains → IsComplete (noted all domain)

-- the pass publishes for none of the trace's contexts
abbrev pub PublishesNone : (trace : Trace) (pass : EstPass) → Type 0
PublishesNone trace pass = (context : ℕ) → context < contexts trace → (known_of context pass).publishes ≡ false
