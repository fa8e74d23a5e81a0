-- How a flusher of a strict device weighs the device's contexts: whether one of them is over background by itself.
use Rattle.std.specs.Prelude.{◌≡◌, ◌≢◌, ℕ, zero, suc, ◌||◌, Bool, true, false, [], ◌∷◌, length}
use Rattle.wbt_counter.specs.History.{at_least_zero}
use Rattle.wbt_counter.specs.declared.counter.Count.{Count}
use Rattle.wbt_counter.specs.declared.counter.Counter.TheVariants.{Context}
use Rattle.wbt_flex.specs.declared.share.Fraction.{Fraction}
use Rattle.wbt_grant.specs.State.{held_of}
use Rattle.wbt_kit.specs.declared.kit.Kit.{Kit}
use Rattle.wbt_kit.specs.declared.kit.Seats.{Seats}
use Rattle.wbt_num.specs.declared.limits.Limits.{Limits}
use Rattle.wbt_rules.specs.Read.{part_read}
use Rattle.wbt_rules.specs.Strict.{is_over_own}
use Rattle.wbt_run_steps.specs.Records.{record_of}
use Rattle.wbt_table.specs.Layout.{setting}
use Rattle.wbt_flusher.specs.Loads.{Loaded}
use Rattle.wbt_flusher.specs.Plans.{context_at, group_of, is_strict}
use Rattle.wbt_flusher.specs.Reads.{HoldsFraction, ReadsShare}
use Rattle.wbt_flusher.specs.Sights.{Sight, tallies_of, tally_in}
use Rattle.wbt_flusher.specs.Turns.{OnlyShare}
use Rattle.wbt_flusher.specs.declared.plan.FlusherPlan.{FlusherPlan}

-- the limits that the flusher's CPU holds of a domain: those that it loaded last
abbrev pub limits_held : (plan : FlusherPlan) (kit : Kit) (domain : ℕ) (seats : Seats) → Limits
limits_held plan kit domain seats = (held_of (setting kit.throttle.layout) domain (record_of plan.cpu seats.cpu.cpus).triples).limits

-- a context with this fraction of a domain reads more pages than its own part of the background threshold, however many the domain has
abbrev pub is_over_part : (plan : FlusherPlan) (limits : Limits) (fraction : Fraction) (reading : ℕ) → Bool
is_over_part plan limits fraction reading = is_over_own reading (part_read plan.shares plan.least_shares limits fraction 0)

-- ---- a context

-- its fraction of a domain was read, or held, and by that it is weighed, and by the limits that the CPU holds of the domain
pub record WeighsIn (plan : FlusherPlan) (kit : Kit) (domain context reading : ℕ) (over : Bool) (old new : Sight) : Type 0 where
  pub fraction : Fraction
  pub reads : ReadsShare domain context fraction (tally_in domain (tallies_of old.work context)).held old.seats.share new.seats.share
  pub only : OnlyShare old.seats new.seats
  pub holds : HoldsFraction domain context fraction old.work new.work
  pub told : new.log ≡ old.log
  pub over_is : over ≡ is_over_part plan (limits_held plan kit domain old.seats) fraction reading

-- in the domain of its cgroup, where it has one
pub data WeighsInGroup (plan : FlusherPlan) (kit : Kit) (context reading : ℕ) (over : Bool) (old new : Sight) : Type 0 where
  has_none : group_of plan context ≡ 0 → over ≡ false → new ≡ old → WeighsInGroup plan kit context reading over old new
  has_one : group_of plan context ≢ 0 → WeighsIn plan kit (group_of plan context) context reading over old new → WeighsInGroup plan kit context reading over old new

-- in the global domain, and then in its cgroup's: it is over where it is over in one of them
pub record WeighsInBoth (plan : FlusherPlan) (kit : Kit) (context reading : ℕ) (over : Bool) (old new : Sight) : Type 0 where
  pub in_global : Bool
  pub between : Sight
  pub global : WeighsIn plan kit 0 context reading in_global old between
  pub in_group : Bool
  pub group : WeighsInGroup plan kit context reading in_group between new
  pub over_is : over ≡ (in_global || in_group)

-- its count was loaded, and it was weighed by that
pub record WeighsContext (plan : FlusherPlan) (kit : Kit) (context : ℕ) (over : Bool) (old new : Sight) : Type 0 where
  pub count : Count
  pub counted : Seats
  pub loaded : Loaded plan (record { counter = Context context; count = count } ∷ []) [] old.seats counted
  pub weighs : WeighsInBoth plan kit context (at_least_zero count.value) over (record old { seats = counted }) new

-- ---- contexts one after another

-- one of another device is passed
pub data WeighsNext (plan : FlusherPlan) (kit : Kit) (context : ℕ) (over : Bool) (old new : Sight) : Type 0 where
  is_elsewhere : ((context_at plan context).device ≡ plan.device → ⊥) → over ≡ false → new ≡ old → WeighsNext plan kit context over old new
  is_weighed : (context_at plan context).device ≡ plan.device → WeighsContext plan kit context over old new → WeighsNext plan kit context over old new

-- those before one, in order: `over` where one of them is
abbrev pub WeighsBefore : (plan : FlusherPlan) (kit : Kit) (context : ℕ) (over : Bool) (old new : Sight) → Type 0
WeighsBefore plan kit zero over old new = (over ≡ false) × (new ≡ old)
WeighsBefore plan kit (suc context) over old new = (mid : Sight) × (before : Bool) × (last : Bool) × WeighsBefore plan kit context before old mid
    × WeighsNext plan kit context last mid new × (over ≡ (before || last))

-- each flusher of a strict device weighs all of the device's contexts, and those of other devices none
pub data WeighsAll (plan : FlusherPlan) (kit : Kit) (over : Bool) (old new : Sight) : Type 0 where
  weighs_each : is_strict plan ≡ true → WeighsBefore plan kit (length plan.contexts) over old new → WeighsAll plan kit over old new
  weighs_none : is_strict plan ≡ false → over ≡ false → new ≡ old → WeighsAll plan kit over old new
