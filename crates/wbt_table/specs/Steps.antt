-- What a step needs of the seat that makes it.
use Rattle.std.specs.Prelude.{◌≡◌, Option, Some, None}
use Rattle.wbt_counter.specs.declared.counter.Counter.TheVariants.{Domain}
use Rattle.wbt_grant.specs.declared.record.TimerRecord.{TimerRecord}
use Rattle.wbt_grant.specs.declared.who.Who.TheVariants.{Timer}
use Rattle.wbt_grant.specs.Kinds.{Step, count}
use Rattle.wbt_grant.specs.Seats.{maker_of, RecordAllows, TimerAllows}
use Rattle.wbt_table.specs.declared.layout.Layout.{Layout}
use Rattle.wbt_table.specs.declared.rule.Granted.{Granted}
use Rattle.wbt_table.specs.Layout.{setting}
use Rattle.wbt_table.specs.Rule.{GrantedStep, Cpus, Holds, given, MayGive, no_layout}

-- a step of a throttle, and the grant that its CPU's record gets with it
abbrev pub turn : (key : Layout) (step : Step) (grants : Option Granted) → GrantedStep
turn key step grants = record { setting = setting key; step = step; grants = grants }

-- what stands where no step is named
abbrev pub no_turn : GrantedStep
no_turn = turn no_layout (count Timer (Domain 0)) None

-- the CPU is held, and its record, with the grant, allows the step
abbrev pub IsReady : (key : Layout) (step : Step) (grants : Option Granted) (cpus : Cpus) → Type 0
IsReady key step grants cpus = Holds cpus (maker_of (setting key) step)
    (λ r. MayGive (setting key) (maker_of (setting key) step) grants r × RecordAllows (setting key) step (given grants r))

-- the timer is held, and its record allows the step
abbrev pub IsTimerReady : (key : Layout) (step : Step) (timer : Option TimerRecord) → Type 0
IsTimerReady key step timer = (r : TimerRecord) × (timer ≡ Some r) × TimerAllows (setting key) step r
