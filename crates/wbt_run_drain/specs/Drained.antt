-- Turns of flushers on seats that were brought together: each may be taken as a turn of the flusher's CPU.
use Rattle.std.specs.Prelude.{◌≡◌, ℕ, ◌<◌, List, set}
use Rattle.wbt_counter.specs.Sums.{put}
use Rattle.wbt_fraction.specs.declared.domain.note.Note.{Note}
use Rattle.wbt_journal.specs.Each.{Each}
use Rattle.wbt_journal.specs.declared.entry.CpuJournal.{CpuJournal}
use Rattle.wbt_kit.specs.declared.kit.Kit.{Kit}
use Rattle.wbt_kit.specs.declared.kit.Seats.{Seats}
use Rattle.wbt_trace.specs.declared.trace.Trace.{Trace}
use Rattle.wbt_run_laws.specs.Elsewhere.{IsPlain}
use Rattle.wbt_run_laws.specs.Notes.{Notes}
use Rattle.wbt_run_laws.specs.Shown.{Shown}
use Rattle.wbt_flusher.specs.Answers.{Went}
use Rattle.wbt_flusher.specs.Did.{Moments}
use Rattle.wbt_flusher.specs.Plans.{IsWork}
use Rattle.wbt_flusher.specs.Sights.{Sight, shown_by, shown_of}
use Rattle.wbt_flusher.specs.declared.plan.FlusherPlan.{FlusherPlan}
use Rattle.wbt_run_seats.specs.Gathered.{AreGathered}
use Rattle.wbt_run_seats.specs.Parts.{owner_of}
use Rattle.wbt_run_drain.specs.Whole.{CpusWorked, IsCleaned, log_at}

-- The CPUs have worked so, and the seats have the notes of all: so it is between two turns of the drain.
pub record AreTogether (trace : Trace) (opened : ℕ) (kit : Kit) (first : ℕ → Seats) (timer : (domain : ℕ) → List Note)
    (logs : List CpuJournal) (last : ℕ → Shown) (notes : ℕ → Notes) (seats : Seats) : Type 0 where
  pub cpus : CpusWorked trace opened kit logs first last notes seats
  pub gathered : AreGathered trace trace.cpus (owner_of kit) notes timer seats

-- the flusher is of the trace, and its CPU shows where it stands and has its log
pub record IsThere (trace : Trace) (opened : ℕ) (kit : Kit) (plan : FlusherPlan) (logs : List CpuJournal) (last : ℕ → Shown) (s : Sight) : Type 0 where
  pub work : IsWork trace plan kit
  pub cpu : plan.cpu < trace.cpus
  pub moment : kit.published.moment ≡ opened
  pub shows : (last plan.cpu).flushers plan.flusher ≡ shown_by s.work
  pub logs_are : log_at logs plan.cpu ≡ s.log

-- what its CPU shows after the turn: another record, and where the flusher stands
abbrev pub shown_behind : (plan : FlusherPlan) (logs : List CpuJournal) (last : ℕ → Shown) (notes : ℕ → Notes) (s : Sight) → Shown
shown_behind plan logs last notes s = shown_of plan (record { shown = last plan.cpu; notes = notes plan.cpu; log = log_at logs plan.cpu }) s

-- what a turn of the drain leaves, where the flusher's CPU noted this after it
pub record TurnGoesOn (trace : Trace) (opened : ℕ) (kit : Kit) (first : ℕ → Seats) (timer : (domain : ℕ) → List Note) (logs : List CpuJournal)
    (last : ℕ → Shown) (notes : ℕ → Notes) (plan : FlusherPlan) (new : Sight) : Type 0 where
  pub behind : Notes
  pub together : AreTogether trace opened kit first timer (set logs plan.cpu new.log) (put last plan.cpu (shown_behind plan logs last notes new)) (put notes plan.cpu behind) new.seats
  -- a page of which each dirtying was completed or absorbed is such still
  pub cleaned : (page : ℕ) → IsCleaned trace last page → IsCleaned trace (put last plan.cpu (shown_behind plan logs last notes new)) page

-- A turn that tells neither a check nor an estimate leaves the CPUs as having worked so, each with its own notes: only the flusher's CPU
-- shows, noted and told more.
abbrev pub DrainGoesOn : Type 0
DrainGoesOn = (trace : Trace) (opened : ℕ) (kit : Kit) (first : ℕ → Seats) (timer : (domain : ℕ) → List Note) (logs : List CpuJournal) (last : ℕ → Shown)
    (notes : ℕ → Notes) (plan : FlusherPlan) (told : Moments) (old new : Sight) → AreTogether trace opened kit first timer logs last notes old.seats
    → IsThere trace opened kit plan logs last old → (went : Went plan kit told old new) → Each IsPlain went.did.added
    → TurnGoesOn trace opened kit first timer logs last notes plan new
