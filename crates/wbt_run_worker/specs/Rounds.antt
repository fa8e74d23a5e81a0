-- What a round did: who went, what all before it said, and how far the rotation came.
use Rattle.std.specs.Prelude.{◌≡◌, ℕ, ◌+◌, ◌<◌, ◌≤◌, Bool, false, List, [], ◌∷◌, length, get_or, set}
use Rattle.wbt_flusher.specs.Answers as flusher
use Rattle.wbt_flusher.specs.Cut.{FlusherFails, FlusherStops, FlusherWaits}
use Rattle.wbt_flusher.specs.Did.{IsStopped}
use Rattle.wbt_flusher.specs.Sights as sights
use Rattle.wbt_flusher.specs.Took.{FlusherTook}
use Rattle.wbt_flusher.specs.declared.plan.FlusherPlan.{FlusherPlan}
use Rattle.wbt_kit.specs.declared.kit.Kit.{Kit}
use Rattle.wbt_kit.specs.declared.kit.Seats.{Seats}
use Rattle.wbt_kit.specs.declared.turn.Turn.{Turn}
use Rattle.wbt_kit.specs.declared.turn.Turn.TheVariants as turn
use Rattle.wbt_run_steps.specs.Kinds.{StepsInTurn}
use Rattle.wbt_table.specs.Layout.{domains}
use Rattle.wbt_writer.specs.Answers.{Turned}
use Rattle.wbt_writer.specs.Desk as writer
use Rattle.wbt_writer.specs.Exact.{WriterTakes}
use Rattle.wbt_run_worker.specs.Answers.{job_by}
use Rattle.wbt_run_worker.specs.Rotation.{AllWait, HasNothingToDo, StandsStill, job_after, least_rest, next_job, none_is_over, taker}
use Rattle.wbt_run_worker.specs.Team.{Seen, Team}
use Rattle.wbt_run_worker.specs.declared.round.JobOutcome.{JobOutcome}
use Rattle.wbt_run_worker.specs.declared.round.JobOutcome.TheVariants as job_said
use Rattle.wbt_run_worker.specs.declared.round.Round.{Round}
use Rattle.wbt_run_worker.specs.declared.round.Round.TheVariants as round
use Rattle.wbt_run_worker.specs.declared.side.Job.{Job}
use Rattle.wbt_run_worker.specs.declared.side.Job.TheVariants.{Writers, Flusher}

-- ---- a job's turn

-- by its answer: a whole turn, a first part of one that was cut off, where the gate said false if it stopped it, or nothing but puts of inodes that waited
abbrev pub FlusherDid : (told : ℕ → Type 0) (said : ℕ → ℕ → Bool → Type 0) (plan : FlusherPlan) (kit : Kit) (answer : Turn) (old new : sights.Sight) → Type 0
FlusherDid told said plan kit turn.Stepped old new = FlusherTook plan kit false told said old new
FlusherDid told said plan kit (turn.Resting now until) old new = flusher.IsLeft old new × FlusherWaits plan kit old new
FlusherDid told said plan kit turn.Done old new = ⊥
FlusherDid told said plan kit turn.Halted old new = FlusherStops plan kit false told said old new × IsStopped plan said new.seats
FlusherDid told said plan kit turn.Faulted old new = FlusherFails plan kit old new
FlusherDid told said plan kit turn.Spent old new = FlusherWaits plan kit old new
FlusherDid told said plan kit turn.NoMemory old new = flusher.IsUntouched old new

-- the flusher of a place did so, and the others and the writers did nothing
pub record FlusherTurn (told : ℕ → Type 0) (said : ℕ → ℕ → Bool → Type 0) (kit : Kit) (place : ℕ) (answer : Turn) (old new : Team) (seats seats' : Seats) : Type 0 where
  pub was : Seen
  pub is : Seen
  pub there : place < length old.posts
  pub its : get_or old.posts place was ≡ was
  pub others : new.posts ≡ set old.posts place is
  pub writers : new.desk ≡ old.desk
  pub did : FlusherDid told said was.plan kit answer (sights.sight was.work seats old.log was.written) (sights.sight is.work seats' new.log is.written)

-- the writers did so, and the flushers did nothing
pub record WritersTurn (told : ℕ → Type 0) (said : ℕ → ℕ → Bool → Type 0) (kit : Kit) (answer : Turn) (old new : Team) (seats seats' : Seats) : Type 0 where
  pub flushers : new.posts ≡ old.posts
  pub turned : Turned told said old.desk.trace old.desk.cpu kit answer (writer.sight old.desk.work seats old.log) (writer.sight new.desk.work seats' new.log)
  pub did : WriterTakes told said old.desk.trace kit old.desk.cpu answer (writer.sight old.desk.work seats old.log) (writer.sight new.desk.work seats' new.log)

-- a job's turn, the writers' or a flusher's
abbrev pub TakesTurn : (told : ℕ → Type 0) (said : ℕ → ℕ → Bool → Type 0) (kit : Kit) (job : Job) (answer : Turn) (old new : Team) (seats seats' : Seats) → Type 0
TakesTurn told said kit Writers answer old new seats seats' = WritersTurn told said kit answer old new seats seats'
TakesTurn told said kit (Flusher place) answer old new seats seats' = FlusherTurn told said kit place answer old new seats seats'

-- A job's turn was told as this. Its steps are those of a whole turn of the CPU; where it was halted, a first part of them.
pub record JobTakes (told : ℕ → Type 0) (said : ℕ → ℕ → Bool → Type 0) (kit : Kit) (job : Job) (outcome : JobOutcome) (old new : Team) (seats seats' : Seats) : Type 0 where
  pub answer : Turn
  pub told_so : outcome ≡ job_by answer
  pub takes : TakesTurn told said kit (taker (length old.posts) job) answer old new seats seats'
  pub cpu : new.desk.cpu ≡ old.desk.cpu
  pub steps : StepsInTurn (domains kit.throttle.layout) old.desk.cpu answer seats seats'

-- where it wasn't made it says why, and all stands where it stood
abbrev pub JobWaits : (told : ℕ → Type 0) (job : Job) (outcome : JobOutcome) (old new : Team) (seats seats' : Seats) → Type 0
JobWaits told job (job_said.Resting ticks) old new seats seats' =
    HasNothingToDo told old.desk.trace old (taker (length old.posts) job) (job_said.Resting ticks) × StandsStill old new seats seats'
JobWaits told job job_said.Over old new seats seats' =
    HasNothingToDo told old.desk.trace old (taker (length old.posts) job) job_said.Over × StandsStill old new seats seats'
JobWaits told job other old new seats seats' = Unit {0}

-- ---- a round

-- jobs one after another, from the first one on, took turns that were told so
abbrev pub TakeTurns : (told : ℕ → Type 0) (said : ℕ → ℕ → Bool → Type 0) (kit : Kit) (flushers : ℕ) (first : Job) (answers : List JobOutcome) (old new : Team) (seats seats' : Seats) → Type 0
TakeTurns told said kit flushers first [] old new seats seats' = (new ≡ old) × (seats' ≡ seats)
TakeTurns told said kit flushers first (answer ∷ more) old new seats seats' =
    (mid : Team) × (between : Seats) × JobTakes told said kit first answer old mid seats between × TakeTurns told said kit flushers (next_job flushers first) more mid new between seats'

-- From the first job on, each before this one had nothing to do, as they stood when the round began: their turns put inodes that waited, and these
-- turns together are all that became of queues and of inodes that wait.
pub record ComesTo (told : ℕ → Type 0) (said : ℕ → ℕ → Bool → Type 0) (kit : Kit) (first job : Job) (answers : List JobOutcome) (old new : Team) (seats seats' : Seats) : Type 0 where
  pub waits : AllWait told old.desk.trace old first answers
  pub job_is : job ≡ job_after (length old.posts) first (length answers)
  pub still : StandsStill old new seats seats'
  pub turns : TakeTurns told said kit (length old.posts) first answers old new seats seats'

-- this job took a turn that was told as this, and those that came before it had nothing to do
pub record OneGoes (told : ℕ → Type 0) (said : ℕ → ℕ → Bool → Type 0) (kit : Kit) (first job : Job) (outcome : JobOutcome) (old new : Team) (seats seats' : Seats) : Type 0 where
  pub answers : List JobOutcome
  pub few : length answers ≤ length old.posts
  pub before : Team
  pub seats_before : Seats
  pub comes : ComesTo told said kit first job answers old before seats seats_before
  pub takes : JobTakes told said kit job outcome before new seats_before seats'

-- all jobs had nothing to do, the writers and each flusher
pub record NoneGoes (told : ℕ → Type 0) (said : ℕ → ℕ → Bool → Type 0) (kit : Kit) (first : Job) (ticks : ℕ) (writes : Bool) (old new : Team) (seats seats' : Seats) : Type 0 where
  pub answers : List JobOutcome
  pub all : length answers ≡ length old.posts + 1
  pub job : Job
  pub comes : ComesTo told said kit first job answers old new seats seats'
  pub ticks_are : ticks ≡ least_rest answers
  pub writes_are : writes ≡ none_is_over answers

-- The rotation goes on with the job after the one that took its turn; else the next round begins where this one did.
abbrev pub Rotates : (told : ℕ → Type 0) (said : ℕ → ℕ → Bool → Type 0) (kit : Kit) (answer : Round) (first next : Job) (old new : Team) (seats seats' : Seats) → Type 0
Rotates told said kit round.Stepped first next old new seats seats' =
    (job : Job) × OneGoes told said kit first job job_said.Stepped old new seats seats' × (next ≡ next_job (length old.posts) job)
Rotates told said kit (round.Idle ticks writes) first next old new seats seats' = NoneGoes told said kit first ticks writes old new seats seats' × (next ≡ first)
Rotates told said kit (round.Ends end) first next old new seats seats' = (job : Job) × OneGoes told said kit first job (job_said.Ends end) old new seats seats' × (next ≡ first)
