-- What single loads of a CPU make of its record, for itself or for a writer of its own.
use Rattle.std.specs.Prelude.{◌≡◌, ℕ, ◌⊎◌, false, List, [], ◌∷◌, OnOk, Result, Ok}
use Rattle.wbt_counter.specs.declared.counter.Count.{Count}
use Rattle.wbt_counter.specs.declared.counter.Counter.{Counter}
use Rattle.wbt_counter.specs.declared.counter.Counter.TheVariants.{Domain}
use Rattle.wbt_grant.specs.Kinds as kind
use Rattle.wbt_grant.specs.Seats.{is_timer}
use Rattle.wbt_grant.specs.State.{held_of}
use Rattle.wbt_grant.specs.declared.record.DomainLimits.{DomainLimits}
use Rattle.wbt_grant.specs.declared.who.Who.{Who}
use Rattle.wbt_journal.specs.Counts.{Load}
use Rattle.wbt_table.specs.Calls.{HoldsWho, IsCutLoad, IsNewest, Made, count_of, whole_load}
use Rattle.wbt_table.specs.Layout.{setting}
use Rattle.wbt_table.specs.Rule.{Holds}
use Rattle.wbt_table.specs.Seat.{Makes}
use Rattle.wbt_table.specs.declared.answer.Loaded.{Loaded}
use Rattle.wbt_table.specs.declared.answer.Loaded.TheVariants.{Fresh, Again, Stopped}
use Rattle.wbt_table.specs.declared.answer.Triple.{Triple}
use Rattle.wbt_kit.specs.declared.kit.Kit.{Kit}
use Rattle.wbt_kit.specs.declared.kit.Seats.{Seats}
use Rattle.wbt_run_steps.specs.Made.{MakesThese}
use Rattle.wbt_run_steps.specs.Records.{OnlyCpu}
use Rattle.wbt_run_steps.specs.declared.loads.DomainLoad.{DomainLoad}

-- a list of one thing
abbrev pub one : {A : Type 0} (x : A) → List A
one x = x ∷ []

-- the count of a domain as a load, and its limits
abbrev pub load_of : (load : DomainLoad) → Load
load_of load = record { counter = Domain load.domain; count = load.count }

-- the limits of a domain, with their version, as a load
abbrev pub triple_of : (load : DomainLoad) → DomainLimits
triple_of load = record { domain = load.domain; version = load.version; limits = load.limits }

-- the seats hold the CPU that loads, which is not the timer
pub record HoldsLoader (kit : Kit) (who : Who) (seats : Seats) : Type 0 where
  pub no_timer : is_timer who ≡ false
  pub held : HoldsWho (setting kit.throttle.layout) who seats.cpu

-- limits that the CPU holds of a domain, as its record has them
abbrev pub held_as : (domain : ℕ) (triple : Triple) → DomainLimits
held_as domain triple = record { domain = domain; version = triple.version; limits = triple.limits }

-- the CPU holds these limits of the domain now
abbrev pub HoldsNow : (kit : Kit) (cpu domain : ℕ) (triple : Triple) (seats : Seats) → Type 0
HoldsNow kit cpu domain triple seats = Holds seats.cpu.cpus cpu (λ r. held_of (setting kit.throttle.layout) domain r.triples ≡ held_as domain triple)

-- what is held after a load is its answer, but where it was stopped
abbrev pub TellsHeld : {E : Type 0} (loaded : Loaded) (held : Result Triple E) → Type 0
TellsHeld (Fresh triple) held = held ≡ Ok triple
TellsHeld (Again triple first second) held = held ≡ Ok triple
TellsHeld Stopped held = OnOk held ⊥

-- A domain's limits were loaded, by three steps, and nothing but the CPU's record changed. The answer is, with its version, what the CPU then
-- holds of the domain
pub record LoadsLimits (kit : Kit) (cpu : ℕ) (who : Who) (domain : ℕ) (triple : Triple) (old new : Seats) : Type 0 where
  pub first : ℕ
  pub thresh : ℕ
  pub second : ℕ
  pub makes : MakesThese kit cpu (whole_load who cpu domain first thresh second) old new
  pub held : HoldsNow kit cpu domain triple new

-- some of these steps were made, and not the last, so what the CPU holds is as it was
pub record LoadsSome (kit : Kit) (cpu domain : ℕ) (old new : Seats) : Type 0 where
  pub made : List Made
  pub cut : IsCutLoad cpu domain made
  pub makes : MakesThese kit cpu made old new

-- the count that was loaded is the one that the step found, no version that the CPU has recorded is after it, and nothing but the
-- CPU's record changed
pub record LoadsCount (kit : Kit) (who : Who) (counter : Counter) (count : Count) (old new : Seats) : Type 0 where
  pub found : ℕ
  pub is_found : count ≡ count_of found
  pub newest : IsNewest (setting kit.throttle.layout) who counter count.version old.cpu
  pub makes : Makes (setting kit.throttle.layout) (kind.count who counter) found old.cpu new.cpu
  pub only : OnlyCpu old new

-- a domain's limits were loaded, and then its count
pub record LoadsDomain (kit : Kit) (cpu : ℕ) (who : Who) (domain : ℕ) (load : DomainLoad) (old new : Seats) : Type 0 where
  pub domain_is : load.domain ≡ domain
  pub between : Seats
  pub limits : LoadsLimits kit cpu who domain (record { version = load.version; limits = load.limits }) old between
  pub count : LoadsCount kit who (Domain domain) load.count between new

-- some of the steps that load the limits, or all of these
abbrev pub LoadsPart : (kit : Kit) (cpu : ℕ) (who : Who) (domain : ℕ) (old new : Seats) → Type 0
LoadsPart kit cpu who domain old new = LoadsSome kit cpu domain old new ⊎ ((triple : Triple) × LoadsLimits kit cpu who domain triple old new)
