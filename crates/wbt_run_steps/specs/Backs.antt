-- What giving a page back makes of a CPU's record and of its log.
use Rattle.std.specs.Prelude.{◌≡◌, ◌≢◌, ℕ, Bool, true, false, not, ◌==◌, if◌then◌else◌, List, [], ◌∷◌, filter, negsuc}
use Rattle.wbt_book.specs.Ledger.{let_go}
use Rattle.wbt_book.specs.PageWords.{bits_at}
use Rattle.wbt_grant.specs.Record.{debts_of}
use Rattle.wbt_grant.specs.Setting.{Setting}
use Rattle.wbt_grant.specs.declared.record.CpuRecord.{CpuRecord}
use Rattle.wbt_table.specs.Calls.{IsCutBack, Made, back_steps}
use Rattle.wbt_table.specs.Layout.{setting}
use Rattle.wbt_table.specs.Rule.{Has}
use Rattle.wbt_table.specs.declared.answer.Back.{Back}
use Rattle.wbt_table.specs.declared.answer.Back.TheVariants.{Redirtied, Absorbed, Missed, Stopped}
use Rattle.wbt_journal.specs.Told.{gave_back}
use Rattle.wbt_journal.specs.declared.entry.CpuJournal.{CpuJournal}
use Rattle.wbt_journal.specs.declared.entry.Entry.TheVariants as entry
use Rattle.wbt_run_laws.specs.Grew.{Grew}
use Rattle.wbt_run_laws.specs.Log.{with_entry}
use Rattle.wbt_kit.specs.declared.kit.Kit.{Kit}
use Rattle.wbt_kit.specs.declared.kit.Seats.{Seats}
use Rattle.wbt_run_steps.specs.Made.{MakesThese}
use Rattle.wbt_run_steps.specs.Steps.{IsStopped}

-- what is owed to the marks of inodes, and one more to this inode's where it is so
abbrev pub and_one : (so : Bool) (inode : ℕ) (marks : List ℕ) → List ℕ
and_one so inode marks = if so then inode ∷ marks else marks

-- A page was given back: the CPU no longer holds it, and owes its inode the mark. An absorbed one is owed to its counters, and else nothing more is
-- owed to them.
pub record Returned (set : Setting) (flusher page : ℕ) (absorbed : Bool) (was is : CpuRecord) : Type 0 where
  pub grew : Grew (gave_back flusher page absorbed ∷ []) was is
  pub held : is.held ≡ let_go page was.held
  pub debts : is.debts ≡ (if absorbed then debts_of set page (negsuc 0) else was.debts)
  pub marks : is.owed_marks ≡ set.inode page ∷ was.owed_marks
  pub rescans : is.owed_rescans ≡ filter (λ p. not (p == page)) was.owed_rescans
  pub writers : is.writers ≡ was.writers

-- A page under writeback was looked at and not given back: the CPU holds what it held. It owes the inode the mark, where the page is dirty again.
pub record Kept (set : Setting) (page : ℕ) (dirty : Bool) (was is : CpuRecord) : Type 0 where
  pub grew : Grew [] was is
  pub held : is.held ≡ was.held
  pub debts : is.debts ≡ was.debts
  pub marks : is.owed_marks ≡ and_one dirty (set.inode page) was.owed_marks
  pub rescans : is.owed_rescans ≡ filter (λ p. not (p == page)) was.owed_rescans
  pub writers : is.writers ≡ was.writers

-- the record of the CPU came from one to another, of which this holds
pub record Came (cpu : ℕ) (P : CpuRecord → CpuRecord → Type 0) (old new : Seats) : Type 0 where
  pub was : CpuRecord
  pub is : CpuRecord
  pub had : Has old.cpu.cpus cpu was
  pub has : Has new.cpu.cpus cpu is
  pub came : P was is

-- The page was given back: the exchange found the word that the look had found, and the page is absorbed where it is dirty in that. The log tells it.
pub record GivesBack (kit : Kit) (cpu flusher page : ℕ) (absorbed : Bool) (old new : Seats) (before behind : CpuJournal) : Type 0 where
  pub word : ℕ
  pub was_dirty : (bits_at word page).dirty ≡ absorbed
  pub was_writeback : (bits_at word page).writeback ≡ true
  pub makes : MakesThese kit cpu (back_steps cpu page word word) old new
  pub returned : Came cpu (Returned (setting kit.throttle.layout) flusher page absorbed) old new
  pub told : behind ≡ with_entry (entry.Back flusher page absorbed) before

-- it wasn't, as the exchange found another word than the look had found
pub record MissesBack (kit : Kit) (cpu page first second : ℕ) (old new : Seats) (before behind : CpuJournal) : Type 0 where
  pub changed : first ≢ second
  pub was_writeback : (bits_at first page).writeback ≡ true
  pub makes : MakesThese kit cpu (back_steps cpu page first second) old new
  pub kept : Came cpu (Kept (setting kit.throttle.layout) page (bits_at first page).dirty) old new
  pub told : behind ≡ before

-- it wasn't, as the gate said false: before the look, or after it
pub data HaltsBack (kit : Kit) (cpu page : ℕ) (old new : Seats) : Type 0 where
  before_its_look : Came cpu (λ was is. is ≡ was) old new → HaltsBack kit cpu page old new
  after_its_look : (n : ℕ) → (bits_at n page).writeback ≡ true → Came cpu (Kept (setting kit.throttle.layout) page (bits_at n page).dirty) old new
      → HaltsBack kit cpu page old new

-- a page wasn't given back, as the gate said false: some of the steps were made, and nothing is told
pub record StopsBack (kit : Kit) (cpu page : ℕ) (said : ℕ → ℕ → Bool → Type 0) (old new : Seats) (before behind : CpuJournal) : Type 0 where
  pub made : List Made
  pub cut : IsCutBack cpu page made
  pub makes : MakesThese kit cpu made old new
  pub halts : HaltsBack kit cpu page old new
  pub stopped : IsStopped cpu said new
  pub told : behind ≡ before

-- what each answer says
abbrev pub AnswersBack : (kit : Kit) (cpu flusher page : ℕ) (said : ℕ → ℕ → Bool → Type 0) (answer : Back) (old new : Seats) (before behind : CpuJournal) → Type 0
AnswersBack kit cpu flusher page said Redirtied old new before behind = GivesBack kit cpu flusher page false old new before behind
AnswersBack kit cpu flusher page said Absorbed old new before behind = GivesBack kit cpu flusher page true old new before behind
AnswersBack kit cpu flusher page said (Missed first second) old new before behind = MissesBack kit cpu page first second old new before behind
AnswersBack kit cpu flusher page said Stopped old new before behind = StopsBack kit cpu page said old new before behind

-- a page that was given back is told, and else nothing
abbrev pub TellsBack : (flusher page : ℕ) (answer : Back) (before behind : CpuJournal) → Type 0
TellsBack flusher page Redirtied before behind = behind ≡ with_entry (entry.Back flusher page false) before
TellsBack flusher page Absorbed before behind = behind ≡ with_entry (entry.Back flusher page true) before
TellsBack flusher page (Missed first second) before behind = behind ≡ before
TellsBack flusher page Stopped before behind = behind ≡ before
