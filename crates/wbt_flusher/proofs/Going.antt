-- Calls of a turn one after another, and what holds after them.
use Rattle.std.proofs.Common.{◌≡◌, ℕ, ◌≤◌, sym, refl, ap, ◌∙◌, subst, arith}
use Rattle.wbt_flusher.proofs.Common.{CpuRecord, CpuJournal, MOST_PAGE_STEPS, Cpus, Has, Kit, Seats, only_same, Went, GoesQuiet, GoesKept, GoesAt, IsReady, Moments, Fits, AreCounted, HasRooms, OwesNothing, KeepsDebts, Sight, sight, completions, held_cpus, HoldsPages, IsSteady}
use Rattle.wbt_table.specs.Seat as table
use Rattle.wbt_run_steps.proofs.Queues.{only_more}
use Rattle.wbt_flusher.specs.Answers.{KeepsCpus}
use Rattle.wbt_flusher.specs.declared.plan.FlusherPlan.{FlusherPlan}
use Rattle.wbt_flusher.specs.declared.work.FlusherWork.{FlusherWork}
use Rattle.wbt_flusher.proofs.Acting.{Kept, works_by, Untold, quiet_by}
use Rattle.wbt_flusher.proofs.Changing.{Changed}
use Rattle.wbt_flusher.proofs.Noting.{did_more}
use Rattle.wbt_flusher.proofs.Rooming.{counted_by, rooms_by}

-- ---- CPUs

pub keeps_same : (old new : Cpus) → new ≡ old → KeepsCpus old new
keeps_same old new same = record { as_many = ap held_cpus same; counted = λ counted. subst AreCounted (sym same) counted }

pub keeps_more : (old mid new : Cpus) → KeepsCpus old mid → KeepsCpus mid new → KeepsCpus old new
keeps_more old mid new p q = record { as_many = q.as_many ∙ p.as_many; counted = λ counted. q.counted (p.counted counted) }

pub keeps_by : (c : ℕ) (r r' : CpuRecord) (old new : table.Seated) → Changed c r r' old new
    → (AreCounted old.cpus → (completions r' ≤ r'.page_steps) × (r'.page_steps ≤ MOST_PAGE_STEPS)) → KeepsCpus old.cpus new.cpus
keeps_by c r r' old new change by = record {
  as_many = change.as_many;
  counted = λ counted. let both = by counted in counted_by c r r' old new change counted both.0 both.1;
}

-- a step that isn't one on a page
pub keeps_changed : (c : ℕ) (r r' : CpuRecord) (old new : table.Seated) → Changed c r r' old new → Has old.cpus c r
    → completions r' ≡ completions r → r'.page_steps ≡ r.page_steps → KeepsCpus old.cpus new.cpus
keeps_changed c r r' old new change has done steps = keeps_by c r r' old new change (λ counted.
    let each = counted.each c r has in
    let few = counted.few c r has in (omega arith, omega arith))

-- ---- calls

module _ (plan : FlusherPlan) (kit : Kit) (told : Moments) where
  pub went_more : (old mid new : Sight) → Went plan kit told old mid → Went plan kit told mid new → Went plan kit told old new
  went_more old mid new p q = record {
    did = did_more plan kit told old mid new p.did q.did;
    fits = q.fits;
    cpus = keeps_more old.seats.cpu.cpus mid.seats.cpu.cpus new.seats.cpu.cpus p.cpus q.cpus;
    queue = only_more plan.device old.seats.queue mid.seats.queue new.seats.queue p.queue q.queue;
  }

  pub holds_went : (old new : Sight) → Went plan kit told old new → HoldsPages plan old.work old.seats → HoldsPages plan new.work new.seats
  holds_went old new went holds page = let had = holds page in let same = went.did.held page in omega arith

  pub rooms_went : (old new : Sight) → Went plan kit told old new → HasRooms plan old.work old.seats → HasRooms plan new.work new.seats
  rooms_went old new went rooms = rooms_by plan kit told old new went.did went.cpus.as_many (went.cpus.counted rooms.counted) rooms

  pub ready_went : (old new : Sight) → Went plan kit told old new → IsReady plan kit old.work old.seats → IsSteady plan new.work → OwesNothing plan new.seats → IsReady plan kit new.work new.seats
  ready_went old new went ready steady owes = record {
    fits = went.fits;
    steady = steady;
    holds = holds_went old new went ready.holds;
    rooms = rooms_went old new went ready.rooms;
    owes_none = owes;
  }

-- calls that change only what the flusher keeps
pub goes_kept : (plan : FlusherPlan) (kit : Kit) (seats : Seats) (was is : FlusherWork) → Fits plan kit seats → Kept plan seats was is → GoesKept plan kit seats seats was is
goes_kept plan kit seats was is fits kept told log written = record {
  did = works_by plan kit seats log was is kept told written;
  fits = fits;
  cpus = keeps_same seats.cpu.cpus seats.cpu.cpus refl;
  queue = only_same plan.device seats.queue seats.queue refl;
}

pub kept_same : (plan : FlusherPlan) (seats : Seats) (work : FlusherWork) → Kept plan seats work work
kept_same plan seats work = record {
  phase = refl;
  faults = refl;
  waits = refl;
  held = λ page. refl;
  rescans = λ page owes own. own;
  marks = λ inode owes own. own;
  owing_is = λ domain there. omega arith;
  total_is = λ context there. omega arith;
}

pub goes_nowhere : (plan : FlusherPlan) (kit : Kit) (seats : Seats) → Fits plan kit seats → GoesQuiet plan kit seats seats
goes_nowhere plan kit seats fits told work log written = goes_kept plan kit seats work work fits (kept_same plan seats work) told log written

-- a step that no entry tells
pub goes_quiet : (plan : FlusherPlan) (kit : Kit) (old new : Seats) → Untold plan old new → Fits plan kit new → GoesQuiet plan kit old new
goes_quiet plan kit old new by fits told work log written = record {
  did = quiet_by plan kit old new by told work log written;
  fits = fits;
  cpus = keeps_changed plan.cpu by.was by.is old.cpu new.cpu by.changed by.has (ap (λ events. completions (record by.was { events = events })) by.gathered.events) by.gathered.page_steps;
  queue = only_same plan.device old.queue new.queue by.queue;
}

-- ---- one call after another

pub quiet_more : (plan : FlusherPlan) (kit : Kit) (old mid new : Seats) → GoesQuiet plan kit old mid → GoesQuiet plan kit mid new → GoesQuiet plan kit old new
quiet_more plan kit old mid new p q told work log written =
    went_more plan kit told (sight work old log written) (sight work mid log written) (sight work new log written) (p told work log written) (q told work log written)

pub kept_more : (plan : FlusherPlan) (kit : Kit) (old mid new : Seats) (was between is : FlusherWork) → GoesKept plan kit old mid was between → GoesKept plan kit mid new between is → GoesKept plan kit old new was is
kept_more plan kit old mid new was between is p q told log written =
    went_more plan kit told (sight was old log written) (sight between mid log written) (sight is new log written) (p told log written) (q told log written)

pub at_more : (now : ℕ) (plan : FlusherPlan) (kit : Kit) (old mid new : Seats) (before between behind : CpuJournal) (was middle is : FlusherWork) → GoesAt now plan kit old mid before between was middle
    → GoesAt now plan kit mid new between behind middle is → GoesAt now plan kit old new before behind was is
at_more now plan kit old mid new before between behind was middle is p q told written has =
    went_more plan kit told (sight was old before written) (sight middle mid between written) (sight is new behind written) (p told written has) (q told written has)

-- debts are kept one after another
pub owes_still : (plan : FlusherPlan) (old new : Seats) → KeepsDebts plan old new → OwesNothing plan old → OwesNothing plan new
owes_still plan old new keeps owes = keeps ∙ owes
