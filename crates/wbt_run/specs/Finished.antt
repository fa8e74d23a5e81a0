-- What a run has when its workers, its drain and its sweep are over.
use Rattle.std.specs.Prelude.{◌≡◌, ℕ, ◌≤◌, Bool, false, List, Option, Ok, IfSome}
use Rattle.wbt_io.specs.Faults.{HasRisenBy}
use Rattle.wbt_journal.specs.declared.journal.Ending.{Ending}
use Rattle.wbt_journal.specs.declared.journal.Ending.TheVariants as ending
use Rattle.wbt_journal.specs.declared.timer.TimerEntry.{TimerEntry}
use Rattle.wbt_kit.specs.declared.kit.Kit.{Kit}
use Rattle.wbt_kit.specs.declared.kit.Seats.{Seats}
use Rattle.wbt_rules.specs.declared.moments.TheConstants.{MOST_FAULTS}
use Rattle.wbt_run_worker.specs.declared.side.CpuSide.{CpuSide}
use Rattle.wbt_trace.specs.declared.trace.Trace.{Trace}
use Rattle.wbt_run_drain.specs.Whole.{HaveWorked}
use Rattle.wbt_run_drain.specs.Ends.{EndingIs}
use Rattle.wbt_run_drain.specs.Standing.{NothingWaits}
use Rattle.wbt_run_drain.specs.Teams.{faults_by_all, faults_told, handed_over, logs_of, teams_of, written_by_all}
use Rattle.wbt_run.specs.Running.{AreHalted, HaveTakenTurns, PauseShortly, TellMoments}

-- The sides and the timer's log, on seats that have all records and all notes. Unless the timer was refused memory the workers have worked so as
-- the sides' ending asks. No check pauses longer than 200 ticks; the clock told each moment; where all disks tell it they have written just the pages of the batches; they
-- count as many faults as the logs tell at least; and each ending has its cause. Where all is done each number that was ever put into a device's queue was taken.
pub record HasFinished {D : Type 0} (told : ℕ → Type 0) (said : ℕ → ℕ → Bool → Type 0) (written : D → Option ℕ) (faults : D → ℕ) (trace : Trace) (now : ℕ) (kit : Kit)
    (sides : List (CpuSide D)) (lines : List TimerEntry) (refused : Bool) (seats : Seats) : Type 0 where
  pub worked : (ended : Ending) → EndingIs sides (Ok ended) → refused ≡ false → HaveWorked trace now kit (logs_of sides) lines ended seats
  pub pauses : PauseShortly (logs_of sides)
  pub moments : TellMoments told (logs_of sides) lines
  pub disks : IfSome (written_by_all (teams_of written faults sides)) (λ total. total ≡ handed_over (logs_of sides))
  pub failures : HasRisenBy (faults_told (logs_of sides)) 0 (faults_by_all (teams_of written faults sides))
  pub faulted : EndingIs sides (Ok ending.Faulted) → MOST_FAULTS ≤ faults_told (logs_of sides)
  pub halted : EndingIs sides (Ok ending.Halted) → AreHalted said trace seats (logs_of sides)
  pub emptied : EndingIs sides (Ok ending.Done) → refused ≡ false → NothingWaits trace seats
  pub turns : HaveTakenTurns trace seats
