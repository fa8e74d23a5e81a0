-- What single entries make of the walks: what a turn shows of one entry after another.
use Rattle.std.specs.Prelude.{◌≡◌, ◌≢◌, ℕ, ◌+◌, ◌≤◌, Bool, true, false, Some, is_some, [], ◌∷◌, slice_get}
use Rattle.wbt_flex.specs.declared.share.Fraction.{Fraction}
use Rattle.wbt_grant.specs.Kinds.{Step, Allowed, after}
use Rattle.wbt_grant.specs.Rule.{Rule}
use Rattle.wbt_grant.specs.Seats.{is_by_timer, maker_of, found_by, record_after}
use Rattle.wbt_grant.specs.Setting.{Setting, IsSetting}
use Rattle.wbt_grant.specs.State.{State}
use Rattle.wbt_published.specs.declared.known.Known.{Known}
use Rattle.wbt_trace.specs.declared.trace.Trace.{Trace}
use Rattle.wbt_journal.specs.Counts.{reads_of}
use Rattle.wbt_journal.specs.Each.{Each}
use Rattle.wbt_journal.specs.Effects.{effect}
use Rattle.wbt_journal.specs.Estimates.{NamesGoOn, names_after}
use Rattle.wbt_journal.specs.Machine.{pages_of_task}
use Rattle.wbt_journal.specs.Reads.{PeriodsGoOn, periods_after}
use Rattle.wbt_journal.specs.Side.{is_own_task}
use Rattle.wbt_journal.specs.Told.{Told, wrote, checked}
use Rattle.wbt_journal.specs.declared.entry.CheckEntry.{CheckEntry}
use Rattle.wbt_journal.specs.declared.entry.DomainLine.{DomainLine}
use Rattle.wbt_run_laws.specs.Notes.{KeepsPeriods, HasNamed}
use Rattle.wbt_run_laws.specs.Owns.{IsOwn}
use Rattle.wbt_run_laws.specs.Shown.{Wrote}
use Rattle.wbt_run_laws.specs.Walks.{items_told, Walks}

-- ---- steps in a state

-- where a CPU may make a step, its record becomes what the step's kind makes of it by the number that was found
abbrev pub RecordBecomes : Type 0
RecordBecomes = (set : Setting) (step : Step) (s : State) → IsSetting set → Rule set s → Allowed set step s → is_by_timer step ≡ false
    → (after set step s).cpu (maker_of set step) ≡ record_after set step (found_by set step s) (s.cpu (maker_of set step))

-- ---- writes

-- the task's next page was written, and no other task's
pub record WritesNext (trace : Trace) (cpu task page : ℕ) (old new : ℕ → ℕ) : Type 0 where
  pub own : is_own_task trace cpu task ≡ true
  pub next : slice_get (pages_of_task trace task) (old task) ≡ Some page
  pub one_more : new task ≡ old task + 1
  pub others : (t : ℕ) → t ≢ task → new t ≡ old t

-- a write of the task's next page is one page more that the task wrote
abbrev pub WriteIsNext : Type 0
WriteIsNext = (trace : Trace) (cpu task page : ℕ) (fresh : Bool) (old new : ℕ → ℕ) → WritesNext trace cpu task page old new
    → Wrote trace cpu old (wrote task page fresh ∷ []) new

-- an entry that is neither a write nor a check
abbrev pub is_write : (entry : Told) → Bool
is_write entry = is_some (effect entry).write

-- whether an entry is a check
abbrev pub is_check : (entry : Told) → Bool
is_check entry = is_some (effect entry).check

-- an entry that is no write leaves what each task wrote
abbrev pub OthersWriteNone : Type 0
OthersWriteNone = (trace : Trace) (cpu : ℕ) (entry : Told) (written : ℕ → ℕ) → is_write entry ≡ false → IsOwn trace cpu entry
    → Wrote trace cpu written (entry ∷ []) written

-- ---- what checks name and read

-- no context's greatest version falls
abbrev pub NoneFalls : (old new : ℕ → Known) → Type 0
NoneFalls old new = (context : ℕ) → (old context).seen ≤ (new context).seen

-- a check names a version that is no less than the pass had seen, and the pass has seen it now
pub record NamesSeen (check : CheckEntry) (old new : ℕ → Known) : Type 0 where
  pub no_older : (old check.context).seen ≤ check.estimate
  pub seen_now : check.estimate ≤ (new check.context).seen
  pub none_falls : NoneFalls old new

-- a check that names no older version than its pass has seen keeps the named versions from going back
abbrev pub CheckNamesSeen : Type 0
CheckNamesSeen = (cpu : ℕ) (check : CheckEntry) (old new : ℕ → Known) → NamesSeen check old new
    → Walks HasNamed NamesGoOn names_after old (items_told cpu (checked check ∷ [])) new

-- an entry that is no check names no version, so that none goes back
abbrev pub OthersNameNone : Type 0
OthersNameNone = (cpu : ℕ) (entry : Told) (old new : ℕ → Known) → is_check entry ≡ false → NoneFalls old new
    → Walks HasNamed NamesGoOn names_after old (items_told cpu (entry ∷ [])) new

-- each fraction of a check is of a period that is no earlier than that of the kept one, and no later than that of the one kept now
pub record ReadsKept (check : CheckEntry) (old new : ℕ → ℕ → Fraction) : Type 0 where
  pub no_earlier : Each (λ (read : DomainLine). (old read.domain check.context).period ≤ read.share.period) (reads_of check)
  pub kept_now : Each (λ (read : DomainLine). read.share.period ≤ (new read.domain check.context).period) (reads_of check)
  pub none_falls : (domain context : ℕ) → (old domain context).period ≤ (new domain context).period

-- a check whose fractions are of no earlier periods than those kept keeps the read periods from going back
abbrev pub CheckReadsKept : Type 0
CheckReadsKept = (cpu : ℕ) (check : CheckEntry) (old new : ℕ → ℕ → Fraction) → ReadsKept check old new
    → Walks KeepsPeriods PeriodsGoOn periods_after old (items_told cpu (checked check ∷ [])) new

-- an entry that is no check reads no period, so that none goes back
abbrev pub OthersReadNone : Type 0
OthersReadNone = (cpu : ℕ) (entry : Told) (kept : ℕ → ℕ → Fraction) → is_check entry ≡ false
    → Walks KeepsPeriods PeriodsGoOn periods_after kept (items_told cpu (entry ∷ [])) kept
