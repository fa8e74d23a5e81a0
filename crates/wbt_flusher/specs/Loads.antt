-- What a flusher's CPU loads: limits and counts of domains, and counts of contexts.
use Rattle.std.specs.Prelude.{◌≡◌, ℕ, ◌+◌, ◌⊎◌, ◌↔◌, IsTrue, Bool, List, [], ◌∷◌, map, length}
use Rattle.wbt_counter.specs.History.{at_least_zero}
use Rattle.wbt_grant.specs.declared.record.DomainLimits.{DomainLimits}
use Rattle.wbt_journal.specs.Counts.{Load}
use Rattle.wbt_kit.specs.declared.kit.Seats.{Seats}
use Rattle.wbt_limits.specs.Limits.{IsOverBackground}
use Rattle.wbt_num.specs.declared.limits.Limits.{Limits}
use Rattle.wbt_run_steps.specs.Loads.{load_of, one, triple_of}
use Rattle.wbt_run_steps.specs.Records.{OnlyCpu, record_of}
use Rattle.wbt_run_steps.specs.declared.loads.DomainLoad.{DomainLoad}
use Rattle.wbt_table.specs.Layout.{setting}
use Rattle.wbt_table.specs.Seat.{Seated}
use Rattle.wbt_run_laws.specs.Grew.{onto, reading_of}
use Rattle.wbt_run_laws.specs.Held.{IsHeld}
use Rattle.wbt_flusher.specs.declared.background.Read.{Read}
use Rattle.wbt_flusher.specs.declared.background.Test.{Test}
use Rattle.wbt_flusher.specs.declared.plan.FlusherPlan.{FlusherPlan}

-- ---- a domain

-- the pages that it tells
abbrev pub read_of : (load : DomainLoad) → Read
read_of load = record { limits = load.limits; dirty = at_least_zero load.count.value }

-- the domain is over background by what was loaded of it
abbrev pub IsOver : (load : DomainLoad) → Type 0
IsOver load = IsOverBackground (read_of load).dirty load.limits

-- some of these domains is over background
abbrev pub AnyOver : (loads : List DomainLoad) → Type 0
AnyOver [] = ⊥
AnyOver (load ∷ more) = IsOver load ⊎ AnyOver more

-- these are the domains from one on, in order
abbrev pub AreFrom : (domain : ℕ) (loads : List DomainLoad) → Type 0
AreFrom domain [] = Unit {0}
AreFrom domain (load ∷ more) = (load.domain ≡ domain) × AreFrom (domain + 1) more

-- ---- the CPU's record

-- A load of limits: they were read whole and are the newest of their domain, or none were. Either way these are what the CPU then holds
pub record LoadsOnce (firsts : (domain : ℕ) → Limits) (t : DomainLimits) (old new : List DomainLimits) : Type 0 where
  pub one_or_none : (new ≡ t ∷ old) ⊎ (new ≡ old)
  pub held : IsHeld firsts new t

-- just these loads, one after another
abbrev pub LoadsEach : (firsts : (domain : ℕ) → Limits) (triples old new : List DomainLimits) → Type 0
LoadsEach firsts [] old new = new ≡ old
LoadsEach firsts (t ∷ triples) old new = (mid : List DomainLimits) × LoadsOnce firsts t old mid × LoadsEach firsts triples mid new

-- it got just these readings, each newer one on top, and these limits were held, each after its load
pub record Gets (cpu : ℕ) (loads : List Load) (triples : List DomainLimits) (old new : Seated) : Type 0 where
  pub readings : (record_of cpu new.cpus).readings ≡ onto one (map reading_of loads) (record_of cpu old.cpus).readings
  pub triples_are : LoadsEach (setting old.layout).firsts triples (record_of cpu old.cpus).triples (record_of cpu new.cpus).triples
  pub layout : new.layout ≡ old.layout

-- and nothing else of the seats changed
pub record Loaded (plan : FlusherPlan) (loads : List Load) (triples : List DomainLimits) (old new : Seats) : Type 0 where
  pub gets : Gets plan.cpu loads triples old.cpu new.cpu
  pub only : OnlyCpu old new

-- ---- the test of an idle flusher

-- the limits and the count of a domain
pub record ReadDomain (plan : FlusherPlan) (domain : ℕ) (read : Read) (old new : Seats) : Type 0 where
  pub load : DomainLoad
  pub domain_is : load.domain ≡ domain
  pub read_is : read ≡ read_of load
  pub loaded : Loaded plan (load_of load ∷ []) (triple_of load ∷ []) old new

-- those of the domains after the global one, up to this many in all: `over` where the global one or one of them is over background
pub record ReadOthers (plan : FlusherPlan) (domains : ℕ) (global : Read) (over : Bool) (old new : Seats) : Type 0 where
  pub others : List DomainLoad
  pub in_order : AreFrom 1 others
  pub each : length others + 1 ≡ domains
  pub loaded : Loaded plan (map load_of others) (map triple_of others) old new
  pub over_is : IsTrue over ↔ (IsOverBackground global.dirty global.limits ⊎ AnyOver others)

-- those of each domain, in order: `over` exactly where one of them is over background
pub record Tested (plan : FlusherPlan) (test : Test) (old new : Seats) : Type 0 where
  pub global : DomainLoad
  pub others : List DomainLoad
  pub in_order : AreFrom 0 (global ∷ others)
  pub each : length (global ∷ others) ≡ plan.domains
  pub loaded : Loaded plan (map load_of (global ∷ others)) (map triple_of (global ∷ others)) old new
  pub global_is : test.global ≡ read_of global
  pub over_is : IsTrue test.over ↔ AnyOver (global ∷ others)
