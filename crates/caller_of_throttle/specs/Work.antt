-- What a worker is given, and what it leaves.
use Rattle.std.specs.Prelude.{◌≡◌, ℕ, ◌+◌, ◌/◌, ◌^◌, ◌<◌, ◌≤◌, length, Some, None}
use Rattle.wbt_num.specs.declared.most.TheConstants.{MOST_PAGES}
use Rattle.wbt_grant.specs.declared.record.CpuRecord.{CpuRecord}
use Rattle.wbt_grant.specs.State.{opening}
use Rattle.wbt_table.specs.declared.layout.Layout.{Layout}
use Rattle.wbt_table.specs.Layout.{setting}
use Rattle.wbt_table.specs.Rule.{Has}
use Rattle.wbt_table.specs.Seat.{Shape, Seated, IsAt}
use Rattle.wbt_table.specs.Calls.{HoldsAll}
use Rattle.wbt_table.specs.Callers.{StepsFor, MayWrite}
use Rattle.caller_of_throttle.specs.declared.worker.Part.{Part}
use Rattle.caller_of_throttle.specs.Machine.{machine_of}

-- the writers of a part are its CPU's, and its pages theirs
pub record IsPart (key : Layout) (part : Part) : Type 0 where
  pub few : part.first + part.pages ≤ (setting key).pages
  pub small : part.first + part.pages ≤ MOST_PAGES
  pub writers_fit : part.writer + part.pages / 32 < 2 ^ 32
  pub may_write : (i : ℕ) → i < part.pages → MayWrite key part.cpu (part.writer + i / 32) (part.first + i)

-- the seat still steps for its CPU, and holds no CPU more or less
pub record Worked (throttle : Shape) (c : ℕ) (old new : Seated) : Type 0 where
  pub steps : StepsFor throttle c new
  pub timer : new.timer ≡ old.timer
  pub long : length new.cpus ≡ length old.cpus

-- two seats of a throttle for two CPUs, the timer with the first
pub record IsPair (throttle : Shape) (one two : Seated) : Type 0 where
  pub layout : throttle.layout ≡ machine_of 2 1 4096
  pub first : StepsFor throttle 0 one
  pub second : StepsFor throttle 1 two
  pub first_long : length one.cpus ≡ 2
  pub second_long : length two.cpus ≡ 2
  pub first_timer : one.timer ≡ Some (opening (setting (machine_of 2 1 4096))).timer
  pub second_timer : two.timer ≡ None

-- a seat that holds both CPUs and the timer, which made no step
pub record IsBack (throttle : Shape) (seat : Seated) : Type 0 where
  pub at : IsAt throttle seat
  pub layout : throttle.layout ≡ machine_of 2 1 4096
  pub all : HoldsAll seat
  pub timer : seat.timer ≡ Some (opening (setting (machine_of 2 1 4096))).timer

-- a writer of a CPU, in the one context of the one domain
pub record IsLoader (key : Layout) (c w : ℕ) : Type 0 where
  pub there : w < length key.writers
  pub seat : (setting key).seat w ≡ c
  pub domain : 0 < length key.firsts
  pub context : 0 < length key.contexts

-- the seat holds the CPUs below n
pub record HoldsFirst (throttle : Shape) (n : ℕ) (seat : Seated) : Type 0 where
  pub at : IsAt throttle seat
  pub long : length seat.cpus ≡ throttle.layout.cpus
  pub each : (i : ℕ) → i < n → (r : CpuRecord) × Has seat.cpus i r

-- one CPU went to another seat
pub record IsSplit (throttle : Shape) (c : ℕ) (old new other : Seated) : Type 0 where
  pub left : HoldsFirst throttle c new
  pub timer : new.timer ≡ old.timer
  pub right : StepsFor throttle c other
  pub long : length other.cpus ≡ throttle.layout.cpus
  pub no_timer : other.timer ≡ None
