-- What a task's turn was.
use Rattle.std.specs.Prelude.{◌≡◌, ℕ, ◌+◌, ◌⊎◌, true, false, List, [], ◌∷◌, map, get_or}
use Rattle.wbt_estimate.specs.declared.estimate.Estimate.{Estimate}
use Rattle.wbt_grant.specs.Kinds.{mark}
use Rattle.wbt_journal.specs.Checks.{asked_by}
use Rattle.wbt_journal.specs.Counts.{loads_of, reads_of}
use Rattle.wbt_journal.specs.Each.{Each}
use Rattle.wbt_journal.specs.Told.{Told, wrote, checked}
use Rattle.wbt_journal.specs.declared.entry.CheckEntry.{CheckEntry}
use Rattle.wbt_kit.specs.declared.kit.Kit.{Kit}
use Rattle.wbt_kit.specs.declared.kit.Seats.{Seats}
use Rattle.wbt_rules.specs.Things.{device_of}
use Rattle.wbt_queue.specs.Order.{HasPut}
use Rattle.wbt_queue.specs.Passes as queue
use Rattle.wbt_table.specs.Layout.{setting}
use Rattle.wbt_table.specs.Seat.{Makes}
use Rattle.wbt_trace.specs.declared.trace.Trace.{Trace}
use Rattle.wbt_run_laws.specs.Grew.{onto, reading_of}
use Rattle.wbt_run_laws.specs.Held.{IsHeld, limits_of}
use Rattle.wbt_writer.specs.Ahead.{first_page}
use Rattle.wbt_run_steps.specs.Loads.{one}
use Rattle.wbt_run_steps.specs.Reads.{ReadsEstimate}
use Rattle.wbt_writer.specs.Counted.{IsJob, RestsFor, cpu_of, is_due_at, rest_after, side_of, task_at}
use Rattle.wbt_writer.specs.Desk.{Sight, fractions_of, record_in}
use Rattle.wbt_writer.specs.Lines.{LinesRead}
use Rattle.wbt_writer.specs.Loads.{HoldsEach}
use Rattle.wbt_writer.specs.Settles.{IsFoldAt}
use Rattle.wbt_writer.specs.declared.tasks.TaskJob.TheVariants as job
use Rattle.wbt_writer.specs.declared.work.WriterWork.{WriterWork}

-- ---- a check

-- It names just the counts that the CPU's record got in this turn, in their order; the limits, with their versions, that the record got or held
-- before, and that it holds of these domains when the turn returns; the fractions that were read of its domains, or the kept ones; and the
-- estimate that was read; and decides by them. A pause makes the task rest.
pub record IsCheck (trace : Trace) (kit : Kit) (cpu task : ℕ) (added : List Told) (old new : Sight) : Type 0 where
  pub check : CheckEntry
  pub added_is : added ≡ checked check ∷ []
  pub its_task : check.task ≡ task
  pub its_context : check.context ≡ (task_at old.work.tasks task).context
  pub due : is_due_at (cpu_of old.work.tasks) (task_at old.work.tasks task).writer ≡ true
  pub readings : (record_in cpu new.seats).readings ≡ onto one (map reading_of (loads_of check)) (record_in cpu old.seats).readings
  pub triples : HoldsEach (setting kit.throttle.layout).firsts (map limits_of (reads_of check)) (record_in cpu old.seats).triples (record_in cpu new.seats).triples
  pub holds : Each (IsHeld (setting kit.throttle.layout).firsts (record_in cpu new.seats).triples) (map limits_of (reads_of check))
  pub fractions : LinesRead check.context (record { global = check.global; cgroup = check.cgroup }) (fractions_of check.context old.work)
      old.seats.share new.seats.share
  pub estimate : Estimate
  pub named : estimate.version ≡ check.estimate
  pub estimated : ReadsEstimate kit.published.firsts check.context estimate old.seats.est new.seats.est
  pub decision : check.decision ≡ asked_by trace (side_of old.work.tasks) check estimate
  pub rests : (task_at new.work.tasks task).rest ≡ rest_after check.decision check.now (task_at old.work.tasks task)

-- ---- a rest, from a moment on

-- the task rests for so many ticks, and nothing is told
pub record IsRest (trace : Trace) (now task : ℕ) (added : List Told) (old new : Sight) : Type 0 where
  pub ticks : ℕ
  pub its_job : RestsFor trace old.work.tasks task ticks
  pub none_told : added ≡ []
  pub cpu : new.seats.cpu ≡ old.seats.cpu
  pub share : new.seats.share ≡ old.seats.share
  pub est : new.seats.est ≡ old.seats.est
  pub rests : (task_at new.work.tasks task).rest ≡ now + ticks

-- ---- a write

-- of a page that was dirty before
pub record IsWriteAlready (trace : Trace) (task : ℕ) (added : List Told) (old : Sight) : Type 0 where
  pub inode : ℕ
  pub page : ℕ
  pub its_job : IsJob trace old.work.tasks task (job.Write inode page)
  pub added_is : added ≡ wrote task (first_page trace inode + page) false ∷ []

-- the inode was put into its device's queue, or it waits, as that was full
abbrev pub IsPut : (trace : Trace) (inode : ℕ) (old new : Seats) (work : WriterWork) → Type 0
IsPut trace inode old new work = HasPut (queue.known_of (device_of trace inode) old.queue) inode (queue.known_of (device_of trace inode) new.queue)
    ⊎ (get_or work.waiting.items inode false ≡ true)

-- the inode was marked, and put where it had no mark
pub record Marks (trace : Trace) (kit : Kit) (cpu inode : ℕ) (old new : Seats) (work : WriterWork) : Type 0 where
  pub found : ℕ
  pub makes : Makes (setting kit.throttle.layout) (mark cpu inode) found old.cpu new.cpu
  pub puts : found ≡ 0 → IsPut trace inode old new work

-- of a page that was clean: its folds are told after it, and at last its inode was marked
pub record IsWriteFresh (trace : Trace) (kit : Kit) (cpu task : ℕ) (added : List Told) (old new : Sight) : Type 0 where
  pub inode : ℕ
  pub page : ℕ
  pub its_job : IsJob trace old.work.tasks task (job.Write inode page)
  pub folds : List Told
  pub added_is : added ≡ wrote task (first_page trace inode + page) true ∷ folds
  pub each_fold : Each (IsFoldAt kit) folds
  pub before_mark : Seats
  pub marks : Marks trace kit cpu inode before_mark new.seats new.work

-- ---- any of these

-- what a task's turn was, by the entries that it told
pub data Took (trace : Trace) (kit : Kit) (now cpu task : ℕ) (added : List Told) (old new : Sight) : Type 0 where
  checks : IsCheck trace kit cpu task added old new → Took trace kit now cpu task added old new
  rests : IsRest trace now task added old new → Took trace kit now cpu task added old new
  writes_already : IsWriteAlready trace task added old → Took trace kit now cpu task added old new
  writes_fresh : IsWriteFresh trace kit cpu task added old new → Took trace kit now cpu task added old new
