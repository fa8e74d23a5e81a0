-- What a flusher reads of estimates and of fractions, how it updates an estimate, and how it adds a number to a domain.
use Rattle.std.specs.Prelude.{◌≡◌, ◌≢◌, ℕ, zero, suc, ◌+◌, ◌<◌, ◌≤◌, true, false, nat_lt, List, [], ◌∷◌, set, get_or, length}
use Rattle.wbt_counter.specs.History.{at_least_zero}
use Rattle.wbt_counter.specs.declared.counter.Count.{Count}
use Rattle.wbt_counter.specs.declared.counter.Counter.TheVariants.{Context}
use Rattle.wbt_estimate.specs.Estimate.{updated}
use Rattle.wbt_estimate.specs.declared.estimate.Estimate.{Estimate}
use Rattle.wbt_estimate.specs.declared.estimate.Sample.{Sample}
use Rattle.wbt_flex.specs.Proportions.{may_be_added}
use Rattle.wbt_flex.specs.declared.share.Fraction.{Fraction}
use Rattle.wbt_fraction.specs.Seat.{Adds, Looks, Missed}
use Rattle.wbt_fraction.specs.Several.{Changes}
use Rattle.wbt_fraction.specs.Several as share
use Rattle.wbt_fraction.specs.declared.domain.note.Note.{Note}
use Rattle.wbt_fraction.specs.declared.domain.words.Again.{Again}
use Rattle.wbt_fraction.specs.declared.total.note.TotalNote.TheVariants.{Saw}
use Rattle.wbt_journal.specs.declared.entry.CpuJournal.{CpuJournal}
use Rattle.wbt_journal.specs.declared.entry.Entry.TheVariants as entry
use Rattle.wbt_kit.specs.declared.kit.Kit.{Kit}
use Rattle.wbt_limits.specs.Limits.{setpoint}
use Rattle.wbt_position.specs.Position.{position_ratio}
use Rattle.wbt_published.specs.Known.{after_publish}
use Rattle.wbt_published.specs.Passes as est
use Rattle.wbt_published.specs.Passes.{known_of}
use Rattle.wbt_rules.specs.Read.{part_read}
use Rattle.wbt_rules.specs.declared.moments.TheConstants.{ESTIMATE_AGE}
use Rattle.wbt_run_laws.specs.Log.{with_entry, with_estimate}
use Rattle.wbt_run_steps.specs.Reads.{IsReadOrHeld, ReadsEstimate}
use Rattle.wbt_flusher.specs.Loads.{Gets}
use Rattle.wbt_flusher.specs.Plans.{context_at, group_of, max_share}
use Rattle.wbt_flusher.specs.Sights.{Sight, first_tallies, tallies_of, tally_in, with_tally}
use Rattle.wbt_flusher.specs.Turns.{OnlyTallies}
use Rattle.wbt_flusher.specs.declared.background.Read.{Read}
use Rattle.wbt_flusher.specs.declared.plan.FlusherPlan.{FlusherPlan}
use Rattle.wbt_flusher.specs.declared.tally.Tallies.{Tallies}
use Rattle.wbt_flusher.specs.declared.work.FlusherWork.{FlusherWork}

-- ---- reads

-- the context's fraction was read in a domain, or held
pub record ReadsShare (domain context : ℕ) (fraction held : Fraction) (old new : share.Seats) : Type 0 where
  pub comes : Changes domain (IsReadOrHeld context fraction held) old.domains new.domains
  pub totals : new.totals ≡ old.totals

-- ---- a number that is added to a domain for a context

-- what is kept for a context, of these
abbrev pub tallies_at : (items : List Tallies) (context : ℕ) → Tallies
tallies_at items context = get_or items context first_tallies

-- it was added, and told; or another thread changed the word between, and it stays owed
pub data AddsNumber (domain context owed left : ℕ) (old new : share.Seats) (before behind : CpuJournal) : Type 0 where
  is_added : Changes domain (Adds context owed) old.domains new.domains → new.totals ≡ old.totals → left ≡ 0
      → behind ≡ with_entry (entry.Share domain context owed) before → AddsNumber domain context owed left old new before behind
  is_kept : (again : Again) → Changes domain (λ was is. (more : List Note) × Missed context again more × Looks more was is) old.domains new.domains
      → new.totals ≡ old.totals → left ≡ owed → behind ≡ before → AddsNumber domain context owed left old new before behind

-- the number that is owed for the context
pub record AddsOwed (domain context : ℕ) (was is : List Tallies) (old new : share.Seats) (before behind : CpuJournal) : Type 0 where
  pub left : ℕ
  pub adds : AddsNumber domain context (tally_in domain (tallies_at was context)).owed left old new before behind
  pub tallies : is ≡ set was context (with_tally domain (record (tally_in domain (tallies_at was context)) { owed = left }) (tallies_at was context))

-- only where the fraction allows it at the device's greatest share; else the number is dropped
pub data AddsWhere (plan : FlusherPlan) (domain context : ℕ) (fraction : Fraction) (owed left : ℕ) (old new : share.Seats) (before behind : CpuJournal) : Type 0 where
  is_allowed : may_be_added fraction (max_share plan) ≡ true → AddsNumber domain context owed left old new before behind
      → AddsWhere plan domain context fraction owed left old new before behind
  is_dropped : may_be_added fraction (max_share plan) ≡ false → new ≡ old → left ≡ 0 → behind ≡ before → AddsWhere plan domain context fraction owed left old new before behind

-- by the fraction that is read then, or held, and that is held from then on
pub record AddsShare (plan : FlusherPlan) (domain context : ℕ) (was is : List Tallies) (old new : share.Seats) (before behind : CpuJournal) : Type 0 where
  pub fraction : Fraction
  pub read : share.Seats
  pub reads : ReadsShare domain context fraction (tally_in domain (tallies_at was context)).held old read
  pub left : ℕ
  pub adds : AddsWhere plan domain context fraction (tally_in domain (tallies_at was context)).owed left read new before behind
  pub tallies : is ≡ set was context (with_tally domain (record { held = fraction; owed = left }) (tallies_at was context))

-- added in the domain of the context's cgroup, where it has one
pub data AddsGroup (plan : FlusherPlan) (context : ℕ) (was is : List Tallies) (old new : share.Seats) (before behind : CpuJournal) : Type 0 where
  has_none : group_of plan context ≡ 0 → is ≡ was → new ≡ old → behind ≡ before → AddsGroup plan context was is old new before behind
  has_one : group_of plan context ≢ 0 → AddsShare plan (group_of plan context) context was is old new before behind → AddsGroup plan context was is old new before behind

-- added in the global domain, and then in the cgroup's
pub record AddsShares (plan : FlusherPlan) (context : ℕ) (was is : List Tallies) (old new : share.Seats) (before behind : CpuJournal) : Type 0 where
  pub between : List Tallies
  pub added : share.Seats
  pub log : CpuJournal
  pub global : AddsShare plan 0 context was between old added before log
  pub group : AddsGroup plan context between is added new log behind

-- ---- estimates

-- by what was read of the global domain and of the context: its fraction, its pages, and what it wrote in all
abbrev pub sample_of : (plan : FlusherPlan) (now : ℕ) (global : Read) (fraction : Fraction) (dirty written avg : ℕ) → Sample
sample_of plan now global fraction dirty written avg = record {
  now = now;
  written = written;
  dirtied = written + dirty;
  ratio = position_ratio (part_read plan.shares plan.least_shares global.limits fraction global.dirty) dirty avg;
  below_setpoint = nat_lt global.dirty (setpoint global.limits);
}

-- nothing but the fraction that is held of a domain changed
pub record HoldsFraction (domain context : ℕ) (fraction : Fraction) (old new : FlusherWork) : Type 0 where
  pub only : OnlyTallies old new
  pub tallies : new.tallies.items ≡ set old.tallies.items context (with_tally domain (record (tally_in domain (tallies_of old context)) { held = fraction }) (tallies_of old context))

-- the newest estimate was read, which is too young for an update
pub record IsYoung (kit : Kit) (now context : ℕ) (old new : Sight) : Type 0 where
  pub newest : Estimate
  pub reads : ReadsEstimate kit.published.firsts context newest old.seats.est new.seats.est
  pub young : now < newest.at + ESTIMATE_AGE
  pub work : new.work ≡ old.work
  pub cpu : new.seats.cpu ≡ old.seats.cpu
  pub share : new.seats.share ≡ old.seats.share
  pub queue : new.seats.queue ≡ old.seats.queue
  pub told : new.log ≡ old.log

-- a context of the device whose newest estimate is old enough: the next one is published and told
pub record Updates (plan : FlusherPlan) (kit : Kit) (now : ℕ) (global : Read) (context : ℕ) (old new : Sight) : Type 0 where
  pub newest : Estimate
  pub read : est.Seats
  pub reads : ReadsEstimate kit.published.firsts context newest old.seats.est read
  pub old_enough : newest.at + ESTIMATE_AGE ≤ now
  pub count : Count
  pub gets : Gets plan.cpu (record { counter = Context context; count = count } ∷ []) [] old.seats.cpu new.seats.cpu
  pub fraction : Fraction
  pub shares : share.Seats
  pub reads_share : ReadsShare 0 context fraction (tally_in 0 (tallies_of old.work context)).held old.seats.share shares
  pub written : ℕ
  pub domains : new.seats.share.domains ≡ shares.domains
  pub totals : new.seats.share.totals.notes ≡ Saw context written ∷ shares.totals.notes
  pub estimate : Estimate
  pub estimate_is : estimate ≡ updated newest (sample_of plan now global fraction (at_least_zero count.value) written newest.avg)
  pub published : new.seats.est ≡ record read { known = set read.known context (after_publish estimate (known_of context read)) }
  pub holds : HoldsFraction 0 context fraction old.work new.work
  pub queue : new.seats.queue ≡ old.seats.queue
  pub told : new.log ≡ with_estimate (record { context = context; estimate = estimate }) old.log

-- ---- contexts one after another

-- a context's estimate is updated where it is of the flusher's device and old enough
pub data Measures (plan : FlusherPlan) (kit : Kit) (now : ℕ) (global : Read) (context : ℕ) (old new : Sight) : Type 0 where
  is_elsewhere : ((context_at plan context).device ≡ plan.device → ⊥) → new ≡ old → Measures plan kit now global context old new
  is_young : (context_at plan context).device ≡ plan.device → IsYoung kit now context old new → Measures plan kit now global context old new
  is_updated : (context_at plan context).device ≡ plan.device → Updates plan kit now global context old new → Measures plan kit now global context old new

-- those before one, in order
abbrev pub MeasuresBefore : (plan : FlusherPlan) (kit : Kit) (now : ℕ) (global : Read) (context : ℕ) (old new : Sight) → Type 0
MeasuresBefore plan kit now global zero old new = new ≡ old
MeasuresBefore plan kit now global (suc context) old new = (mid : Sight) × MeasuresBefore plan kit now global context old mid × Measures plan kit now global context mid new

-- a device's first flusher updates the estimates of the device's contexts
pub data MeasuresAll (plan : FlusherPlan) (kit : Kit) (now : ℕ) (global : Read) (old new : Sight) : Type 0 where
  is_first : plan.leads ≡ true → MeasuresBefore plan kit now global (length plan.contexts) old new → MeasuresAll plan kit now global old new
  is_another : plan.leads ≡ false → new ≡ old → MeasuresAll plan kit now global old new
