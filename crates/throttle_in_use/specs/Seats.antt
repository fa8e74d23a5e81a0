-- What a test asks of its seat, for loads of limits and for the timer's steps, and what it knows of a page that a CPU tried to give back.
use Rattle.std.specs.Prelude.{◌≡◌, ℕ, ◌<◌, Some}
use Rattle.wbt_grant.specs.declared.record.CpuRecord.{CpuRecord}
use Rattle.wbt_book.specs.Ledger.{times_in}
use Rattle.wbt_grant.specs.declared.record.TimerRecord.{TimerRecord}
use Rattle.wbt_grant.specs.Setting.{Setting}
use Rattle.wbt_table.specs.declared.answer.Back.{Back}
use Rattle.wbt_table.specs.declared.answer.Back.TheVariants.{Redirtied, Absorbed, Missed, Stopped}
use Rattle.wbt_table.specs.Layout.{domains}
use Rattle.wbt_table.specs.Callers.{HasClaimed}
use Rattle.wbt_table.specs.Rule.{Has, Holds}
use Rattle.wbt_table.specs.Seat.{Shape, Seated, IsAt}

-- the seat is the throttle's, which has a domain, and loads for the CPU
pub record Loads (throttle : Shape) (c : ℕ) (seat : Seated) : Type 0 where
  pub at : IsAt throttle seat
  pub there : 0 < domains throttle.layout
  pub known : c < throttle.layout.cpus
  pub held : (r : CpuRecord) × Has seat.cpus c r

-- or makes the timer's steps
pub record Ticks (throttle : Shape) (seat : Seated) : Type 0 where
  pub at : IsAt throttle seat
  pub there : 0 < domains throttle.layout
  pub timer : (r : TimerRecord) × (seat.timer ≡ Some r)

-- the CPU owes the page's inode the mark where the page is dirty once more, and holds the page still where it wasn't given back
abbrev pub Leaves : (set : Setting) (c p : ℕ) (answer : Back) (seat : Seated) → Type 0
Leaves set c p Redirtied seat = Holds seat.cpus c (λ r. 0 < times_in (set.inode p) r.owed_marks)
Leaves set c p Absorbed seat = Unit {0}
Leaves set c p (Missed n m) seat = HasClaimed c p seat
Leaves set c p Stopped seat = HasClaimed c p seat
