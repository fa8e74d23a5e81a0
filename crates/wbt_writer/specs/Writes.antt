-- What the steps of a write did.
use Rattle.std.specs.Prelude.{◌≡◌, ◌≢◌, ℕ, ◌+◌, ◌≤◌, Bool, true, false, List, [], ◌∷◌}
use Rattle.wbt_book.specs.Ledger.{times_in}
use Rattle.wbt_journal.specs.Each.{Each}
use Rattle.wbt_journal.specs.Told.{Told, wrote}
use Rattle.wbt_kit.specs.declared.kit.Kit.{Kit}
use Rattle.wbt_kit.specs.declared.kit.Seats.{Seats}
use Rattle.wbt_table.specs.Calls.{HasNoPageSteps}
use Rattle.wbt_table.specs.Layout.{setting}
use Rattle.wbt_table.specs.declared.answer.Dirtied.{Dirtied}
use Rattle.wbt_table.specs.declared.answer.Dirtied.TheVariants.{Fresh, Already}
use Rattle.wbt_trace.specs.declared.trace.Trace.{Trace}
use Rattle.wbt_writer.specs.Ahead.{first_page}
use Rattle.wbt_journal.specs.declared.entry.CpuJournal.{CpuJournal}
use Rattle.wbt_writer.specs.Desk.{HaveLefts, OwesNothing, Sight, record_in, sight}
use Rattle.wbt_writer.specs.Did.{Does, OwesNoMore}
use Rattle.wbt_run_steps.specs.Steps.{IsStopped}
use Rattle.wbt_run_steps.specs.Steps.{AreOwed}
use Rattle.wbt_writer.specs.Settles.{IsFoldAt}
use Rattle.wbt_writer.specs.Took.{Marks}
use Rattle.wbt_writer.specs.declared.work.WriterWork.{WriterWork}
use Rattle.wbt_writer.specs.declared.write.Wrote.{Wrote}
use Rattle.wbt_writer.specs.declared.write.Wrote.TheVariants as wrote_it

-- the CPU owes marks that it owed before, and one to this inode
abbrev pub OwesMark : (cpu inode : ℕ) (old new : Seats) → Type 0
OwesMark cpu inode old new = (i : ℕ) → i ≢ inode → 1 ≤ times_in i (record_in cpu new).owed_marks → 1 ≤ times_in i (record_in cpu old).owed_marks

-- ---- the step `dirty`, with its entry

-- what is owed then: of a page that was clean an event to each of its counters, and a mark to its inode
abbrev pub Leaves : (kit : Kit) (cpu inode : ℕ) (answer : Dirtied) (old new : Seats) → Type 0
Leaves kit cpu inode Fresh old new = AreOwed cpu kit new × OwesMark cpu inode old new
Leaves kit cpu inode Already old new = OwesNothing cpu new × OwesNoMore cpu old new

-- whether the page was clean
abbrev pub is_fresh : (answer : Dirtied) → Bool
is_fresh Fresh = true
is_fresh Already = false

-- the page was dirtied and told, and its events and its inode's mark are owed where it was clean
pub record Dirties (trace : Trace) (kit : Kit) (cpu task inode page : ℕ) (answer : Dirtied) (old new : Sight) : Type 0 where
  pub does : Does trace kit.published.moment cpu (wrote task (first_page trace inode + page) (is_fresh answer) ∷ []) old new
  pub leaves : Leaves kit cpu inode answer old.seats new.seats
  pub lefts : HaveLefts trace cpu kit new.work.tasks new.seats
  pub fractions : new.work.fractions.items ≡ old.work.fractions.items
  pub share : new.seats.share ≡ old.seats.share
  pub est : new.seats.est ≡ old.seats.est

-- ---- what follows

-- the inode was marked, and put where it had no mark; its mark is paid, and the record's writers are as they were
pub record Marked (trace : Trace) (kit : Kit) (cpu inode : ℕ) (was is : WriterWork) (old new : Seats) : Type 0 where
  pub marks : Marks trace kit cpu inode old new is
  pub does : (before : CpuJournal) → Does trace kit.published.moment cpu [] (sight was old before) (sight is new before)
  pub paid : (i : ℕ) → 1 ≤ times_in i (record_in cpu new).owed_marks → (i ≢ inode) × (1 ≤ times_in i (record_in cpu old).owed_marks)
  pub debts : (record_in cpu new).debts ≡ (record_in cpu old).debts
  pub writers : (record_in cpu new).writers ≡ (record_in cpu old).writers
  pub tasks : is.tasks ≡ was.tasks
  pub fractions : is.fractions.items ≡ was.fractions.items
  pub share : new.share ≡ old.share
  pub est : new.est ≡ old.est

-- folds were told, and the inode was marked
pub record Finished (trace : Trace) (kit : Kit) (cpu inode : ℕ) (old new : Sight) : Type 0 where
  pub folds : List Told
  pub each_fold : Each (IsFoldAt kit) folds
  pub does : Does trace kit.published.moment cpu folds old new
  pub paid : OwesNothing cpu new.seats
  pub marks_paid : (i : ℕ) → 1 ≤ times_in i (record_in cpu new.seats).owed_marks → (i ≢ inode) × (1 ≤ times_in i (record_in cpu old.seats).owed_marks)
  pub before_mark : Seats
  pub marks : Marks trace kit cpu inode before_mark new.seats new.work
  pub writers : (record_in cpu new.seats).writers ≡ (record_in cpu old.seats).writers
  pub tasks : new.work.tasks ≡ old.work.tasks
  pub fractions : new.work.fractions.items ≡ old.work.fractions.items
  pub share : new.seats.share ≡ old.seats.share
  pub est : new.seats.est ≡ old.seats.est

-- or the gate said no before that
pub record CutOff (trace : Trace) (cpu opened : ℕ) (said : ℕ → ℕ → Bool → Type 0) (old new : Sight) : Type 0 where
  pub added : List Told
  pub does : Does trace opened cpu added old new
  pub stopped : IsStopped cpu said new.seats

-- what follows a write of a clean page, by its answer
abbrev pub Finishes : (trace : Trace) (kit : Kit) (cpu inode : ℕ) (said : ℕ → ℕ → Bool → Type 0) (answer : Wrote) (old new : Sight) → Type 0
Finishes trace kit cpu inode said wrote_it.Fresh old new = Finished trace kit cpu inode old new
Finishes trace kit cpu inode said wrote_it.Stopped old new = CutOff trace cpu kit.published.moment said old new
Finishes trace kit cpu inode said other old new = ⊥

-- ---- the whole

-- The task's page was written, and the CPU owes nothing then that it didn't owe before.
pub record Written (trace : Trace) (kit : Kit) (cpu : ℕ) (added : List Told) (old new : Sight) : Type 0 where
  pub does : Does trace kit.published.moment cpu added old new
  pub owes_nothing : OwesNothing cpu new.seats
  pub lefts : HaveLefts trace cpu kit new.work.tasks new.seats
  pub owes_no_more : OwesNoMore cpu old.seats new.seats

-- with what follows a write of a clean page
pub record WrittenFresh (trace : Trace) (kit : Kit) (cpu task inode page : ℕ) (old new : Sight) : Type 0 where
  pub folds : List Told
  pub each_fold : Each (IsFoldAt kit) folds
  pub written : Written trace kit cpu (wrote task (first_page trace inode + page) true ∷ folds) old new
  pub before_mark : Seats
  pub marks : Marks trace kit cpu inode before_mark new.seats new.work

-- a write of a page, by its answer
abbrev pub Writes : (trace : Trace) (kit : Kit) (cpu task inode page : ℕ) (said : ℕ → ℕ → Bool → Type 0) (answer : Wrote) (old new : Sight) → Type 0
Writes trace kit cpu task inode page said wrote_it.Already old new =
    Written trace kit cpu (wrote task (first_page trace inode + page) false ∷ []) old new
Writes trace kit cpu task inode page said wrote_it.Fresh old new = WrittenFresh trace kit cpu task inode page old new
Writes trace kit cpu task inode page said wrote_it.Stopped old new = CutOff trace cpu kit.published.moment said old new
Writes trace kit cpu task inode page said wrote_it.Spent old new = (new ≡ old) × HasNoPageSteps (setting kit.throttle.layout) cpu old.seats.cpu
