-- What a check loads, and what its CPU's record keeps of it.
use Rattle.std.specs.Prelude.{◌≡◌, ◌≢◌, ℕ, ◌^◌, ◌≤◌, ◌==◌, ◌⊎◌, cond, List, [], ◌∷◌, ◌++◌, map, IfSome, Option, Some, None, unsigned_abs}
use Rattle.wbt_num.specs.Limits.{IsLawful}
use Rattle.wbt_num.specs.declared.limits.Limits.{Limits}
use Rattle.wbt_counter.specs.declared.counter.Count.{Count}
use Rattle.wbt_counter.specs.History.{at_least_zero}
use Rattle.wbt_counter.specs.declared.counter.Counter.TheVariants.{Domain, Context}
use Rattle.wbt_grant.specs.Kinds.{Step, count}
use Rattle.wbt_grant.specs.Setting.{Setting}
use Rattle.wbt_grant.specs.State.{writer_in, kept_of}
use Rattle.wbt_grant.specs.declared.record.CpuRecord.{CpuRecord}
use Rattle.wbt_grant.specs.declared.record.DomainLimits.{DomainLimits}
use Rattle.wbt_grant.specs.declared.record.Kept.{Kept}
use Rattle.wbt_grant.specs.declared.record.WriterRecord.{WriterRecord}
use Rattle.wbt_grant.specs.declared.who.Who.TheVariants.{Writer}
use Rattle.wbt_journal.specs.Counts.{Load}
use Rattle.wbt_journal.specs.Each.{Each}
use Rattle.wbt_kit.specs.declared.kit.Seats.{Seats}
use Rattle.wbt_run_laws.specs.Grew.{onto, reading_of}
use Rattle.wbt_run_laws.specs.Held.{IsHeld}
use Rattle.wbt_run_laws.specs.Steps.{Gathered}
use Rattle.wbt_writer.specs.Desk.{record_in}
use Rattle.wbt_run_steps.specs.Loads.{held_as, load_of, one, triple_of}
use Rattle.wbt_run_steps.specs.Made.{domain_steps}
use Rattle.wbt_run_steps.specs.Records.{IsApart}
use Rattle.wbt_run_steps.specs.declared.loads.DomainLoad.{DomainLoad}
use Rattle.wbt_table.specs.declared.answer.Triple.{Triple}
use Rattle.wbt_writer.specs.declared.loads.Loads.{Loads}

-- ---- what was loaded, in the order of the steps

-- the count of the cgroup, where there is one
abbrev pub group_loads : (group : Option DomainLoad) → List Load
group_loads None = []
group_loads (Some load) = load_of load ∷ []

-- the limits of the cgroup, where there is one
abbrev pub group_triples : (group : Option DomainLoad) → List DomainLimits
group_triples None = []
group_triples (Some load) = triple_of load ∷ []

-- the counts that a check loads, in the order of its lines
abbrev pub loads_in : (context : ℕ) (loads : Loads) → List Load
loads_in context loads = (load_of loads.global ∷ group_loads loads.group) ++ record { counter = Context context; count = loads.count } ∷ []

-- the limits that a check loads, in the order of its lines
abbrev pub triples_in : (loads : Loads) → List DomainLimits
triples_in loads = triple_of loads.global ∷ group_triples loads.group

-- the group is that of the number, where there is one
abbrev pub IsGroup : (group : ℕ) (load : Option DomainLoad) → Type 0
IsGroup group None = group ≡ 0
IsGroup group (Some load) = (group ≢ 0) × (load.domain ≡ group)

-- The steps of a check: the global domain's limits and count, those of the context's cgroup where it has one, and the context's count.
abbrev pub group_steps : (cpu writer group : ℕ) → List Step
group_steps cpu writer group = cond (group == 0) [] (domain_steps cpu (Writer writer) group)

-- all steps of a check, in their order
abbrev pub check_steps : (cpu writer context group : ℕ) → List Step
check_steps cpu writer context group = domain_steps cpu (Writer writer) 0 ++ (group_steps cpu writer group ++ count (Writer writer) (Context context) ∷ [])

-- ---- what became of the record

-- One after another the CPU held these limits of their domains: each was read whole and is loaded now, or it was held before and nothing was
-- loaded.
abbrev pub HoldsEach : (firsts : ℕ → Limits) (told old new : List DomainLimits) → Type 0
HoldsEach firsts [] old new = new ≡ old
HoldsEach firsts (t ∷ told) old new = (mid : List DomainLimits) × ((mid ≡ t ∷ old) ⊎ (mid ≡ old)) × IsHeld firsts mid t × HoldsEach firsts told mid new

-- These counts were loaded, the newest first on top of what was there, and these limits were held, and nothing else of the record changed but
-- what its writers keep, and what it found of limits since it began to load them.
pub record Gets (set : Setting) (loads : List Load) (triples : List DomainLimits) (was is : CpuRecord) : Type 0 where
  pub gathered : Gathered loads was is
  pub readings : is.readings ≡ onto one (map reading_of loads) was.readings
  pub triples_are : HoldsEach set.firsts triples was.triples is.triples
  pub debts : is.debts ≡ was.debts
  pub held : is.held ≡ was.held
  pub marks : is.owed_marks ≡ was.owed_marks
  pub rescans : is.owed_rescans ≡ was.owed_rescans
  pub lefts : (w : ℕ) → (writer_in set w is.writers).left ≡ (writer_in set w was.writers).left

-- nothing but the record of the CPU's table seat changed
pub record OnTable (cpu : ℕ) (old new : Seats) : Type 0 where
  pub apart : IsApart cpu old.cpu new.cpu
  pub share : new.share ≡ old.share
  pub est : new.est ≡ old.est
  pub queue : new.queue ≡ old.queue

-- on the table seat of the CPU these counts were loaded and these limits held, and nothing else changed
pub record Loaded (set : Setting) (cpu : ℕ) (loads : List Load) (triples : List DomainLimits) (old new : Seats) : Type 0 where
  pub on : OnTable cpu old new
  pub gets : Gets set loads triples (record_in cpu old) (record_in cpu new)

-- ---- what the writer keeps for a grant

-- what the CPU's record keeps of a writer
abbrev pub kept_by : (set : Setting) (cpu writer : ℕ) (seats : Seats) → WriterRecord
kept_by set cpu writer seats = writer_in set writer (record_in cpu seats).writers

-- what a writer keeps of a domain that it loaded
abbrev pub kept_for : (load : DomainLoad) → Kept
kept_for load = record { domain = load.domain; limits = Some load.limits; reading = Some (at_least_zero load.count.value) }

-- the writer keeps the loads of the domain
abbrev pub HasKept : (set : Setting) (cpu writer : ℕ) (load : DomainLoad) (seats : Seats) → Type 0
HasKept set cpu writer load seats = kept_of load.domain (kept_by set cpu writer seats).kept ≡ kept_for load

-- the writer keeps the loads of the cgroup, where there is one
abbrev pub HasKeptGroup : (set : Setting) (cpu writer : ℕ) (group : Option DomainLoad) (seats : Seats) → Type 0
HasKeptGroup set cpu writer None seats = Unit {0}
HasKeptGroup set cpu writer (Some load) seats = HasKept set cpu writer load seats

-- and still keeps those of other domains
abbrev pub KeepsOthers : (set : Setting) (cpu writer domain : ℕ) (old new : Seats) → Type 0
KeepsOthers set cpu writer domain old new =
    (d : ℕ) → d ≢ domain → kept_of d (kept_by set cpu writer new).kept ≡ kept_of d (kept_by set cpu writer old).kept

-- a domain's limits and count were loaded
pub record LoadedDomain (set : Setting) (cpu writer : ℕ) (load : DomainLoad) (old new : Seats) : Type 0 where
  pub loaded : Loaded set cpu (load_of load ∷ []) (triple_of load ∷ []) old new
  pub has_kept : HasKept set cpu writer load new
  pub others : KeepsOthers set cpu writer load.domain old new

-- all that a check of a writer in a context loads
pub record LoadedAll (set : Setting) (cpu writer context group : ℕ) (loads : Loads) (old new : Seats) : Type 0 where
  pub loaded : Loaded set cpu (loads_in context loads) (triples_in loads) old new
  pub global : loads.global.domain ≡ 0
  pub group_is : IsGroup group loads.group
  pub has_global : HasKept set cpu writer loads.global new
  pub has_group : HasKeptGroup set cpu writer loads.group new
  pub has_context : (kept_by set cpu writer new).context_reading ≡ Some (at_least_zero loads.count.value)
  pub holds : Each (IsHeld set.firsts (record_in cpu new).triples) (triples_in loads)

-- a part of such loads
pub record LoadedSome (set : Setting) (cpu : ℕ) (old new : Seats) : Type 0 where
  pub loads : List Load
  pub triples : List DomainLimits
  pub loaded : Loaded set cpu loads triples old new

-- ---- single steps

-- the limits of a domain were loaded, by three steps: the CPU holds these now
pub record LoadedLimits (set : Setting) (cpu writer domain : ℕ) (triple : Triple) (old new : Seats) : Type 0 where
  pub loaded : Loaded set cpu [] (held_as domain triple ∷ []) old new
  pub has_limits : kept_of domain (kept_by set cpu writer new).kept ≡ record { domain = domain; limits = Some triple.limits; reading = None }
  pub others : KeepsOthers set cpu writer domain old new

-- a domain's count was loaded, after its limits
pub record LoadedCount (set : Setting) (cpu writer domain : ℕ) (count : Count) (old new : Seats) : Type 0 where
  pub loaded : Loaded set cpu (record { counter = Domain domain; count = count } ∷ []) [] old new
  pub has_reading : kept_of domain (kept_by set cpu writer new).kept
      ≡ record { domain = domain; limits = (kept_of domain (kept_by set cpu writer old).kept).limits; reading = Some (at_least_zero count.value) }
  pub others : KeepsOthers set cpu writer domain old new

-- the writer's own context's count was loaded
pub record LoadedContext (set : Setting) (cpu writer context : ℕ) (count : Count) (old new : Seats) : Type 0 where
  pub loaded : Loaded set cpu (record { counter = Context context; count = count } ∷ []) [] old new
  pub has_reading : (kept_by set cpu writer new).context_reading ≡ Some (at_least_zero count.value)
  pub others : (kept_by set cpu writer new).kept ≡ (kept_by set cpu writer old).kept

-- the cgroup's domain was loaded, where there is one
pub record LoadedGroup (set : Setting) (cpu writer group : ℕ) (load : Option DomainLoad) (old new : Seats) : Type 0 where
  pub loaded : Loaded set cpu (group_loads load) (group_triples load) old new
  pub group_is : IsGroup group load
  pub has_group : HasKeptGroup set cpu writer load new
  pub global : kept_of 0 (kept_by set cpu writer new).kept ≡ kept_of 0 (kept_by set cpu writer old).kept

-- ---- ranges

-- lawful limits, and a count that is small
pub record IsInRange (load : DomainLoad) : Type 0 where
  pub lawful : IsLawful load.limits
  pub few : unsigned_abs load.count.value ≤ 2 ^ 31

-- all loads of a check are in range; its context's count is at most 2 ^ 31 from 0
pub record AreInRange (loads : Loads) : Type 0 where
  pub global : IsInRange loads.global
  pub group : IfSome loads.group IsInRange
  pub few : unsigned_abs loads.count.value ≤ 2 ^ 31
