-- Steps that a CPU makes one after another.
use Rattle.std.specs.Prelude.{◌≡◌, ℕ, ◌<◌, List, [], ◌∷◌, ◌++◌, length, map}
use Rattle.wbt_counter.specs.declared.counter.Counter.TheVariants.{Domain}
use Rattle.wbt_grant.specs.Kinds.{Step, count, first, limits, middle}
use Rattle.wbt_grant.specs.declared.who.Who.{Who}
use Rattle.wbt_kit.specs.declared.kit.Kit.{Kit}
use Rattle.wbt_kit.specs.declared.kit.Seats.{Seats}
use Rattle.wbt_table.specs.Calls.{Made, record_of}
use Rattle.wbt_table.specs.History.{LogsSteps, log_of}
use Rattle.wbt_table.specs.Layout.{setting}
use Rattle.wbt_table.specs.Seat.{Changes, LogComes}
use Rattle.wbt_run_steps.specs.Records.{OnlyCpu}

-- the CPU made these in order, each with what then stood in its word; nothing else of the seats changed
pub record MakesThese (kit : Kit) (cpu : ℕ) (made : List Made) (old new : Seats) : Type 0 where
  pub becomes : Changes cpu (record_of (setting kit.throttle.layout) made) old.cpu new.cpu
  pub logs : LogComes cpu (LogsSteps (setting kit.throttle.layout) (log_of (setting kit.throttle.layout) cpu) made) old.cpu new.cpu
  pub only : OnlyCpu old new

-- just these steps were made
pub record MakesEach (kit : Kit) (cpu : ℕ) (steps : List Step) (old new : Seats) : Type 0 where
  pub made : List Made
  pub steps_are : map (λ (m : Made). m.step) made ≡ steps
  pub makes : MakesThese kit cpu made old new

-- a first part of these steps was made, and not all of them
pub record MakesSome (kit : Kit) (cpu : ℕ) (steps : List Step) (old new : Seats) : Type 0 where
  pub made : List Step
  pub left : List Step
  pub whole : steps ≡ made ++ left
  pub some_left : 0 < length left
  pub makes : MakesEach kit cpu made old new

-- the loads of a domain: its limits by three steps, and then its count
abbrev pub domain_steps : (cpu : ℕ) (who : Who) (domain : ℕ) → List Step
domain_steps cpu who domain = first cpu domain ∷ middle cpu domain ∷ limits who domain ∷ count who (Domain domain) ∷ []
