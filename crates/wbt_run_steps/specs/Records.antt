-- The records of the CPUs that a thread steps for.
use Rattle.std.specs.Prelude.{◌≡◌, ◌≢◌, ℕ, Option, Some, None, slice_index_or}
use Rattle.wbt_grant.specs.State.{no_record}
use Rattle.wbt_grant.specs.declared.record.CpuRecord.{CpuRecord}
use Rattle.wbt_num.specs.declared.limits.Limits.{Limits}
use Rattle.wbt_table.specs.Layout.{setting}
use Rattle.wbt_table.specs.Rule.{Cpus, Has}
use Rattle.wbt_table.specs.Seat.{Seated}
use Rattle.wbt_kit.specs.declared.kit.Seats.{Seats}

-- the record that a seat holds; an empty one where it holds none
abbrev pub held_in : (which : Option CpuRecord) → CpuRecord
held_in None = no_record
held_in (Some r) = r

-- that of a CPU, where it is held
abbrev pub record_of : (cpu : ℕ) (cpus : Cpus) → CpuRecord
record_of cpu cpus = held_in (slice_index_or cpus cpu None)

-- the limits that each CPU holds first
abbrev pub firsts_of : (seats : Seats) → ℕ → Limits
firsts_of seats = (setting seats.cpu.layout).firsts

-- no other CPU's record changes, nor the timer's, nor the layout
pub record IsApart (cpu : ℕ) (old new : Seated) : Type 0 where
  pub others : (c : ℕ) (r : CpuRecord) → c ≢ cpu → Has old.cpus c r → Has new.cpus c r
  pub no_more : (c : ℕ) (r : CpuRecord) → c ≢ cpu → Has new.cpus c r → Has old.cpus c r
  pub timer : new.timer ≡ old.timer
  pub layout : new.layout ≡ old.layout

-- nothing but the records changes
pub record OnlyCpu (old new : Seats) : Type 0 where
  pub share : new.share ≡ old.share
  pub est : new.est ≡ old.est
  pub queue : new.queue ≡ old.queue
