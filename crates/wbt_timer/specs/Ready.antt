-- What the timer needs of its kit and seats before a turn.
use Rattle.std.specs.Prelude.{◌≡◌, ℕ, length}
use Rattle.wbt_grant.specs.declared.record.TimerRecord.{TimerRecord}
use Rattle.wbt_trace.specs.declared.trace.Trace.{Trace}
use Rattle.wbt_kit.specs.Kit.{AreFirst, AreSeatsOf, HasTimer, IsKitOf}
use Rattle.wbt_kit.specs.declared.kit.Kit.{Kit}
use Rattle.wbt_kit.specs.declared.kit.Seats.{Seats}
use Rattle.wbt_table.specs.Layout as table
use Rattle.wbt_timer.specs.Side.{Side, IsTimerOf, IsFirstSide}

-- it is the trace's, with a side for each domain of the kit, and the seats are the kit's and hold the timer
pub record IsReady (trace : Trace) (kit : Kit) (side : Side) (seats : Seats) : Type 0 where
  pub its : IsTimerOf trace side
  pub domains_are : length side.domains ≡ table.domains kit.throttle.layout
  pub shared_are : length side.domains ≡ length kit.shares.domains
  pub seats_are : AreSeatsOf kit seats
  pub timer : (r : TimerRecord) × HasTimer r seats

-- ---- a law

-- the timer is ready at the opening
abbrev pub IsReadyFirst : Type 0
IsReadyFirst = (trace : Trace) (now : ℕ) (kit : Kit) (side : Side) (seats : Seats) → IsKitOf trace now kit → AreSeatsOf kit seats → AreFirst kit seats
    → IsTimerOf trace side → IsFirstSide trace now side → IsReady trace kit side seats
