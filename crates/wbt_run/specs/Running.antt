-- What a run over threads tells, and why it ends.
use Rattle.std.specs.Prelude.{◌≡◌, ℕ, ◌<◌, ◌≤◌, Bool, true, false, List, [], length, count_by, Option, Some, IfSome}
use Rattle.std.specs.List.{list_any}
use Rattle.wbt_io.specs.Faults.{HasRisenBy}
use Rattle.wbt_io.specs.Pages.{Grows}
use Rattle.wbt_journal.specs.Each.{Each}
use Rattle.wbt_journal.specs.Effects.{effect}
use Rattle.wbt_journal.specs.Forms.{HasForm}
use Rattle.wbt_journal.specs.Items.{all_told, parts_of}
use Rattle.wbt_journal.specs.Lawful.{DirtiedWereCompleted, FoundWereDirtied, IsLawful}
use Rattle.wbt_journal.specs.Leaves.{WroteAll, a_flusher_failed, has_all_steps, writes_of}
use Rattle.wbt_journal.specs.Machine.{domains, pages_of_task, task_cpu}
use Rattle.wbt_journal.specs.Text.{journal_lines}
use Rattle.wbt_journal.specs.Told.{Told, told as told_by}
use Rattle.wbt_journal.specs.declared.entry.CheckEntry.{CheckEntry}
use Rattle.wbt_journal.specs.declared.entry.CpuJournal.{CpuJournal}
use Rattle.wbt_journal.specs.declared.journal.Ending.TheVariants as ending
use Rattle.wbt_journal.specs.declared.journal.Journal.{Journal}
use Rattle.wbt_journal.specs.declared.timer.TimerEntry.{TimerEntry}
use Rattle.wbt_kit.specs.declared.kit.Kit.{Kit}
use Rattle.wbt_kit.specs.declared.kit.Seats.{Seats}
use Rattle.wbt_rules.specs.declared.moments.TheConstants.{MOST_FAULTS}
use Rattle.wbt_run_steps.specs.Kinds.{kinds_in}
use Rattle.wbt_table.specs.Rule.{HasLog}
use Rattle.wbt_table.specs.declared.rule.Logged.{Logged}
use Rattle.wbt_turns.specs.Words.{IsCutOff}
use Rattle.wbt_run_worker.specs.Ticking.{LimitsAreTold as IsToldLine}
use Rattle.wbt_run_worker.specs.Went.{IsTold}
use Rattle.wbt_trace.specs.declared.trace.Trace.{Trace}
use Rattle.wbt_run_laws.specs.Laws.{NoneWaitsWhenDone}
use Rattle.wbt_run_drain.specs.Whole.{HaveWorked, log_at}
use Rattle.wbt_run_drain.specs.Standing.{WasStopped}
use Rattle.wbt_run_drain.specs.Teams.{faults_told, handed_over}
use Rattle.wbt_run_drain.specs.Words.{IsTurnOrLook, TimerTellsTurns}

-- ---- moments

-- each moment in the logs of the CPUs and of the timer was told by the clock
pub record TellMoments (told : ℕ → Type 0) (logs : List CpuJournal) (lines : List TimerEntry) : Type 0 where
  pub cpus : Each (λ (log : CpuJournal). Each (IsTold told) (told_by log)) logs
  pub timer : Each (IsToldLine told) lines

-- ---- pauses

-- a check's pause, in ticks
abbrev pub IsShortCheck : (check : CheckEntry) → Type 0
IsShortCheck check = check.decision.pause ≤ 200

-- an entry's check, if it is one, pauses at most 200 ticks
abbrev pub IsShort : (entry : Told) → Type 0
IsShort entry = IfSome (effect entry).check IsShortCheck

-- no check in them pauses longer than 200 ticks
abbrev pub PauseShortly : (logs : List CpuJournal) → Type 0
PauseShortly logs = Each (λ (log : CpuJournal). Each IsShort (told_by log)) logs

-- ---- halts

-- the gate stopped a CPU, and each that has a task of which its log doesn't tell all writes, at a number of steps that the seats' record of it has
pub record AreHalted (said : ℕ → ℕ → Bool → Type 0) (trace : Trace) (seats : Seats) (logs : List CpuJournal) : Type 0 where
  pub cpu : ℕ
  pub there : cpu < trace.cpus
  pub stopped : WasStopped said cpu seats
  pub each : (task of : ℕ) → task_cpu trace task ≡ Some of
      → count_by (writes_of task) (told_by (log_at logs of)) < length (pages_of_task trace task) → WasStopped said of seats

-- the gate says only true
abbrev pub NeverStops : (said : ℕ → ℕ → Bool → Type 0) → Type 0
NeverStops said = (cpu steps : ℕ) → said cpu steps false → ⊥

-- ---- turns

-- The seats' log of each CPU tells turns, one after another, each made of the steps that its kind asks for, in their order; the last one may be
-- cut off. Between the turns of the first CPU stand the looks of the sweep. The timer's log tells turns of the timer.
pub record HaveTakenTurns (trace : Trace) (seats : Seats) : Type 0 where
  pub cpus : (cpu : ℕ) → cpu < trace.cpus → (log : List Logged) × HasLog seats.cpu.logs cpu log × IsCutOff (IsTurnOrLook (domains trace) cpu) (kinds_in log)
  pub timer : TimerTellsTurns (domains trace) seats

-- The CPUs and the timer took turns, by their logs on the seats that the workers left, of which the journal's parts tell what they made.
pub record TookTurns (trace : Trace) (j : Journal) : Type 0 where
  pub opened : ℕ
  pub kit : Kit
  pub seats : Seats
  pub worked : HaveWorked trace opened kit j.cpus j.timer j.ending seats
  pub turns : HaveTakenTurns trace seats

-- ---- the journal of a run

-- It is lawful for the trace, and has no steps and no lines of strict devices; its numbers are in the ranges of their fields; each page that a write found dirty was dirtied by a write that it tells, and each that was dirtied was completed or is left; where all is done no inode waits for its age; no check in it
-- pauses longer than 200 ticks; the clock told each moment in it; the disks that were given back have written just the pages of its batches; the rack's count of faults has risen by as
-- many faults as it tells at least; and each CPU and the timer took turns, one after another.
pub record IsRunOf (told : ℕ → Type 0) (trace : Trace) (before now : Option ℕ) (faults faults' : ℕ) (j : Journal) : Type 0 where
  pub lawful : IsLawful trace j
  pub found : FoundWereDirtied j
  pub completed : DirtiedWereCompleted trace j
  pub none_waits : NoneWaitsWhenDone trace j
  pub no_steps : (j.steps ≡ []) × (j.bases ≡ []) × (j.homes ≡ []) × (j.strict ≡ [])
  pub forms : Each HasForm (journal_lines j)
  pub pauses : PauseShortly j.cpus
  pub moments : TellMoments told j.cpus j.timer
  pub disks : Grows (Some (handed_over j.cpus)) before now
  pub failures : HasRisenBy (faults_told j.cpus) faults faults'
  pub turns : TookTurns trace j

-- every page of every action was written, and no page is left
pub record IsDone (trace : Trace) (j : Journal) : Type 0 where
  pub ends : j.ending ≡ ending.Done
  pub written : WroteAll trace (all_told j) 0 trace.tasks
  pub none_left : j.left ≡ []

-- The gate stopped a CPU: by its record on the seats that the workers left, of which the journal's parts tell what they made, it has made so
-- many steps.
pub record IsHalted (said : ℕ → ℕ → Bool → Type 0) (trace : Trace) (j : Journal) : Type 0 where
  pub ends : j.ending ≡ ending.Halted
  pub opened : ℕ
  pub kit : Kit
  pub seats : Seats
  pub worked : HaveWorked trace opened kit j.cpus j.timer j.ending seats
  pub halted : AreHalted said trace seats j.cpus

-- the faults of the rack's disks rose by as many as a flusher may have, and so many of one flusher are told
pub record IsFaulted (trace : Trace) (before now : ℕ) (j : Journal) : Type 0 where
  pub ends : j.ending ≡ ending.Faulted
  pub risen : HasRisenBy MOST_FAULTS before now
  pub told : a_flusher_failed trace (all_told j) ≡ true

-- a CPU's part tells all the page steps that a CPU may make
pub record IsSpent (j : Journal) : Type 0 where
  pub ends : j.ending ≡ ending.Spent
  pub told : list_any has_all_steps (parts_of j) ≡ true
