-- What a caller looks at before it calls, and tests do.
use Rattle.std.specs.Prelude.{◌≡◌, ℕ, ◌<◌, length}
use Rattle.wbt_book.specs.Ledger.{times_in}
use Rattle.wbt_grant.specs.declared.record.CpuRecord.{CpuRecord}
use Rattle.wbt_table.specs.declared.layout.Layout.{Layout}
use Rattle.wbt_table.specs.Layout.{setting}
use Rattle.wbt_table.specs.Rule.{Has, Holds}
use Rattle.wbt_table.specs.Seat.{Shape, Seated, IsAt}

-- the seat is the throttle's and steps for the CPU
pub record StepsFor (throttle : Shape) (c : ℕ) (seat : Seated) : Type 0 where
  pub at : IsAt throttle seat
  pub held : (r : CpuRecord) × Has seat.cpus c r

-- the writer is one of the CPU, and the page one of its context
pub record MayWrite (key : Layout) (c w p : ℕ) : Type 0 where
  pub there : w < length key.writers
  pub seat : (setting key).seat w ≡ c
  pub page : p < (setting key).pages
  pub home : (setting key).home p ≡ (setting key).works_in w

-- the CPU has claimed the page
abbrev pub HasClaimed : (c p : ℕ) (seat : Seated) → Type 0
HasClaimed c p seat = Holds seat.cpus c (λ r. 0 < times_in p r.held)
