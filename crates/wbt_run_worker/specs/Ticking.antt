-- What the timer's worker does: turns, one after another.
use Rattle.std.specs.Prelude.{◌≡◌, ℕ, List, ◌++◌, length}
use Rattle.wbt_grant.specs.declared.record.TimerRecord.{TimerRecord}
use Rattle.wbt_journal.specs.Each.{Each}
use Rattle.wbt_journal.specs.declared.timer.TimerEntry.{TimerEntry}
use Rattle.wbt_journal.specs.declared.timer.TimerEntry.TheVariants as timer
use Rattle.wbt_kit.specs.Kit.{AreSeatsOf, HasTimer}
use Rattle.wbt_kit.specs.declared.kit.Kit.{Kit}
use Rattle.wbt_kit.specs.declared.kit.Seats.{Seats}
use Rattle.wbt_table.specs.Layout.{domains}
use Rattle.wbt_timer.specs.Side.{IsTimerOf, Side, ticked}
use Rattle.wbt_timer.specs.Turn.{SeatsStay}
use Rattle.wbt_trace.specs.declared.trace.Trace.{Trace}
use Rattle.wbt_run_laws.specs.Worker.{TimerWorker, TimerWent}

-- the moment of the limits that an entry tells was told
abbrev pub LimitsAreTold : (told : ℕ → Type 0) (entry : TimerEntry) → Type 0
LimitsAreTold told (timer.Limits domain now limits) = told now
LimitsAreTold told (timer.Period domain k) = Unit {0}

-- the kit has just the domains that the timer keeps
pub record HasDomains (kit : Kit) (side : Side) : Type 0 where
  pub counted : length side.domains ≡ domains kit.throttle.layout
  pub shared : length side.domains ≡ length kit.shares.domains

-- the timer may take a turn with these seats
pub record MayTick (kit : Kit) (side : Side) (seats : Seats) : Type 0 where
  pub there : HasDomains kit side
  pub seats_are : AreSeatsOf kit seats
  pub held : (r : TimerRecord) × HasTimer r seats

-- the timer between two turns, with what it told
abbrev pub ticking : (r : TimerRecord) (side : Side) (seats : Seats) (log : List TimerEntry) → TimerWorker
ticking r side seats log = record { ticked = ticked r side seats.share; log = log }

-- The timer's turns, one after another: they told just what its record and its notes say, of moments that the clock told; and of the
-- seats nothing else changed.
pub record Ticks (told : ℕ → Type 0) (old new : Side) (seats seats' : Seats) (log log' : List TimerEntry) : Type 0 where
  pub machine : new.machine ≡ old.machine
  pub many : length new.domains ≡ length old.domains
  pub stay : SeatsStay seats seats'
  pub added : List TimerEntry
  pub logged : log' ≡ log ++ added
  pub moments : Each (LimitsAreTold told) added
  pub stops : ℕ  -- how often the gate stopped it
  pub went : (trace : Trace) (opened : ℕ) (r : TimerRecord) → IsTimerOf trace old → HasTimer r seats
      → (r' : TimerRecord) × HasTimer r' seats' × TimerWent trace opened stops (ticking r old seats log) (ticking r' new seats' log')
