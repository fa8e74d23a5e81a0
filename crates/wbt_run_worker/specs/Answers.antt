-- What turns, rounds and workers answer.
use Rattle.std.specs.Prelude.{◌≡◌, ℕ, ◌-◌, ◌≤◌, Bool, false, Option, Some, None}
use Rattle.wbt_kit.specs.declared.kit.Kit.{Kit}
use Rattle.wbt_kit.specs.declared.kit.Seats.{Seats}
use Rattle.wbt_kit.specs.declared.turn.Turn.{Turn}
use Rattle.wbt_kit.specs.declared.turn.Turn.TheVariants as turn
use Rattle.wbt_run_steps.specs.Steps.{IsStopped}
use Rattle.wbt_table.specs.Calls.{HasNoPageSteps}
use Rattle.wbt_table.specs.Layout.{setting}
use Rattle.wbt_trace.specs.declared.trace.Trace.{Trace}
use Rattle.wbt_run_worker.specs.Side.{HaveEnded, IsSide, NoneFailed, Stands}
use Rattle.wbt_run_worker.specs.Team.{Team}
use Rattle.wbt_run_worker.specs.Went.{AnyFaulted, Idled, TeamWent}
use Rattle.wbt_run_worker.specs.declared.round.JobOutcome.{JobOutcome}
use Rattle.wbt_run_worker.specs.declared.round.JobOutcome.TheVariants as job
use Rattle.wbt_run_worker.specs.declared.round.Round.{Round}
use Rattle.wbt_run_worker.specs.declared.round.Round.TheVariants as round
use Rattle.wbt_run_worker.specs.declared.side.End.{End}
use Rattle.wbt_run_worker.specs.declared.side.End.TheVariants.{Ended, Halted, Faulted, Spent, Refused, Stopped}

-- ---- what a turn's answer is to its worker

-- it waits for no moment that has passed
abbrev pub WaitsOn : (answer : Turn) → Type 0
WaitsOn (turn.Resting now until) = now ≤ until
WaitsOn other = Unit {0}

-- what a turn's answer is as the outcome of a job
abbrev pub job_by : (answer : Turn) → JobOutcome
job_by turn.Stepped = job.Stepped
job_by (turn.Resting now until) = job.Resting (until - now)
job_by turn.Done = job.Over
job_by turn.Halted = job.Ends Halted
job_by turn.Faulted = job.Ends Faulted
job_by turn.Spent = job.Ends Spent
job_by turn.NoMemory = job.Ends Refused

-- ---- ends

-- Why a side ends: all its tasks have ended; the gate said false to the CPU at the steps that its record has, and no flusher has failed; a disk
-- failed for the eighth time, and its flusher has failed; the CPU has made all its page steps. But for Halted and Faulted it may go on.
abbrev pub EndsSo : (said : ℕ → ℕ → Bool → Type 0) (trace : Trace) (cpu : ℕ) (kit : Kit) (end : End) (old new : Team) (seats' : Seats) → Type 0
EndsSo said trace cpu kit Ended old new seats' = IsSide trace cpu kit new seats' × HaveEnded trace new
EndsSo said trace cpu kit Halted old new seats' = IsStopped cpu said seats' × NoneFailed new.posts
EndsSo said trace cpu kit Faulted old new seats' = AnyFaulted old.posts new.posts
EndsSo said trace cpu kit Spent old new seats' = IsSide trace cpu kit new seats' × HasNoPageSteps (setting kit.throttle.layout) cpu seats'.cpu
EndsSo said trace cpu kit Refused old new seats' = IsSide trace cpu kit new seats'
EndsSo said trace cpu kit Stopped old new seats' = IsSide trace cpu kit new seats'

-- where it hasn't ended it may go on
abbrev pub ComesOut : (said : ℕ → ℕ → Bool → Type 0) (trace : Trace) (cpu : ℕ) (kit : Kit) (end : Option End) (old new : Team) (seats' : Seats) → Type 0
ComesOut said trace cpu kit None old new seats' = IsSide trace cpu kit new seats'
ComesOut said trace cpu kit (Some end) old new seats' = EndsSo said trace cpu kit end old new seats'

-- where a turn or a round cuts a side off: for one of these, and where memory was refused nothing was done
abbrev pub CutsOff : (said : ℕ → ℕ → Bool → Type 0) (trace : Trace) (cpu : ℕ) (kit : Kit) (end : End) (old new : Team) (seats seats' : Seats) → Type 0
CutsOff said trace cpu kit Ended old new seats seats' = ⊥
CutsOff said trace cpu kit Stopped old new seats seats' = ⊥
CutsOff said trace cpu kit Refused old new seats seats' = IsSide trace cpu kit new seats' × Idled old new seats seats'
CutsOff said trace cpu kit end old new seats seats' = EndsSo said trace cpu kit end old new seats'

-- a job is over where all tasks have ended; no flusher's is
abbrev pub JobAnswers : (said : ℕ → ℕ → Bool → Type 0) (trace : Trace) (cpu : ℕ) (kit : Kit) (answer : JobOutcome) (old new : Team) (seats seats' : Seats) → Type 0
JobAnswers said trace cpu kit job.Stepped old new seats seats' = IsSide trace cpu kit new seats'
JobAnswers said trace cpu kit (job.Resting ticks) old new seats seats' = IsSide trace cpu kit new seats' × Idled old new seats seats'
JobAnswers said trace cpu kit job.Over old new seats seats' = IsSide trace cpu kit new seats' × Idled old new seats seats' × HaveEnded trace new
JobAnswers said trace cpu kit (job.Ends end) old new seats seats' = CutsOff said trace cpu kit end old new seats seats'

-- nobody writes only where all tasks have ended
abbrev pub RoundAnswers : (said : ℕ → ℕ → Bool → Type 0) (trace : Trace) (cpu : ℕ) (kit : Kit) (answer : Round) (old new : Team) (seats seats' : Seats) → Type 0
RoundAnswers said trace cpu kit round.Stepped old new seats seats' = IsSide trace cpu kit new seats'
RoundAnswers said trace cpu kit (round.Idle ticks writes) old new seats seats' =
    IsSide trace cpu kit new seats' × Idled old new seats seats' × (writes ≡ false → HaveEnded trace new)
RoundAnswers said trace cpu kit (round.Ends end) old new seats seats' = CutsOff said trace cpu kit end old new seats seats'

-- what was done, and what stands after it
pub record Goes (told : ℕ → Type 0) (trace : Trace) (cpu : ℕ) (kit : Kit) (old new : Team) (seats seats' : Seats) : Type 0 where
  pub went : TeamWent told trace cpu kit old new seats seats'
  pub stands : Stands trace cpu kit new seats'
