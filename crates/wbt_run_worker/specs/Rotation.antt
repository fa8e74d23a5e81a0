-- The rotation of a CPU's jobs: the writers, then its flushers by number, and then the writers again. And what a job says that has nothing
-- to do.
use Rattle.std.specs.Prelude.{◌≡◌, ℕ, zero, suc, ◌+◌, ◌-◌, ◌<◌, Bool, true, false, nat_lt, min, if◌then◌else◌, List, [], ◌∷◌, length, get_or}
use Rattle.wbt_flusher.specs.Answers.{wait_of}
use Rattle.wbt_kit.specs.declared.kit.Seats.{Seats}
use Rattle.wbt_trace.specs.declared.trace.Trace.{Trace}
use Rattle.wbt_writer.specs.Choice.{IsChosen}
use Rattle.wbt_writer.specs.declared.choose.Chosen.TheVariants as chosen
use Rattle.wbt_run_worker.specs.Side.{HaveEnded}
use Rattle.wbt_run_worker.specs.Team.{Seen, Team}
use Rattle.wbt_run_worker.specs.Went.{Idled}
use Rattle.wbt_run_worker.specs.declared.round.JobOutcome.{JobOutcome}
use Rattle.wbt_run_worker.specs.declared.round.JobOutcome.TheVariants.{Resting, Over}
use Rattle.wbt_run_worker.specs.declared.round.TheConstants.{MOST_REST}
use Rattle.wbt_run_worker.specs.declared.side.Job.{Job}
use Rattle.wbt_run_worker.specs.declared.side.Job.TheVariants.{Writers, Flusher}

-- ---- whose turn it is

-- the flusher of this place where there is one, else the writers
abbrev pub flusher_or_writers : (flushers place : ℕ) → Job
flusher_or_writers flushers place = if nat_lt place flushers then Flusher place else Writers

-- the job after one
abbrev pub next_job : (flushers : ℕ) (job : Job) → Job
next_job flushers Writers = flusher_or_writers flushers 0
next_job flushers (Flusher place) = flusher_or_writers flushers (place + 1)

-- the job so many turns after one
abbrev pub job_after : (flushers : ℕ) (first : Job) (turns : ℕ) → Job
job_after flushers first zero = first
job_after flushers first (suc turns) = job_after flushers (next_job flushers first) turns

-- who takes the turn of a job: the writers take that of a flusher that isn't there
abbrev pub taker : (flushers : ℕ) (job : Job) → Job
taker flushers Writers = Writers
taker flushers (Flusher place) = flusher_or_writers flushers place

-- ---- a job that has nothing to do

-- at a moment that the clock told all tasks of the writers rest, the soonest for so many ticks; or all have ended
abbrev pub WritersWait : (told : ℕ → Type 0) (trace : Trace) (team : Team) (answer : JobOutcome) → Type 0
WritersWait told trace team (Resting ticks) = (now until : ℕ) × told now × IsChosen team.desk.work.tasks now (chosen.Resting until) × (ticks ≡ until - now)
WritersWait told trace team Over = HaveEnded trace team
WritersWait told trace team other = ⊥

-- at a moment that the clock told a flusher rests, or the disk has its batch, for so many ticks more
pub record FlusherRests (told : ℕ → Type 0) (place ticks : ℕ) (team : Team) : Type 0 where
  pub flusher : Seen
  pub there : place < length team.posts
  pub its : get_or team.posts place flusher ≡ flusher
  pub now : ℕ
  pub was_told : told now
  pub later : now < wait_of false flusher.work.phase
  pub ticks_are : ticks ≡ wait_of false flusher.work.phase - now

-- a flusher is never over
abbrev pub FlusherWaits : (told : ℕ → Type 0) (place : ℕ) (team : Team) (answer : JobOutcome) → Type 0
FlusherWaits told place team (Resting ticks) = FlusherRests told place ticks team
FlusherWaits told place team other = ⊥

-- what a job says that has nothing to do, the writers' or a flusher's
abbrev pub HasNothingToDo : (told : ℕ → Type 0) (trace : Trace) (team : Team) (job : Job) (answer : JobOutcome) → Type 0
HasNothingToDo told trace team Writers answer = WritersWait told trace team answer
HasNothingToDo told trace team (Flusher place) answer = FlusherWaits told place team answer

-- so of each job from one on, in rotation
abbrev pub AllWait : (told : ℕ → Type 0) (trace : Trace) (team : Team) (first : Job) (answers : List JobOutcome) → Type 0
AllWait told trace team first [] = Unit {0}
AllWait told trace team first (answer ∷ more) =
    HasNothingToDo told trace team (taker (length team.posts) first) answer × AllWait told trace team (next_job (length team.posts) first) more

-- the least of the rests, and no more than the most that a worker rests at once
abbrev pub least_rest : (answers : List JobOutcome) → ℕ
least_rest [] = MOST_REST
least_rest (Resting ticks ∷ more) = min ticks (least_rest more)
least_rest (other ∷ more) = least_rest more

-- the writers are over where a job is
abbrev pub none_is_over : (answers : List JobOutcome) → Bool
none_is_over [] = true
none_is_over (Over ∷ more) = false
none_is_over (other ∷ more) = none_is_over more

-- ---- what such jobs leave

-- a flusher with its batch, its phase, what it is to add and to count, the inodes that wait for their age, and their places
pub record IsLeft (old new : Seen) : Type 0 where
  pub plan : new.plan ≡ old.plan
  pub phase : new.work.phase ≡ old.work.phase
  pub batch : new.work.batch.items ≡ old.work.batch.items
  pub hard : new.work.hard ≡ old.work.hard
  pub tallies : new.work.tallies ≡ old.work.tallies
  pub wheel : new.work.wheel ≡ old.work.wheel
  pub places : new.work.places ≡ old.work.places

-- each flusher stands where it stood
abbrev pub AreLeft : (old new : List Seen) → Type 0
AreLeft [] [] = Unit {0}
AreLeft (p ∷ old) (q ∷ new) = IsLeft p q × AreLeft old new
AreLeft _ _ = ⊥

-- Tasks stand where they stood, fractions are kept, and flushers stand where they stood. Of queues, and of inodes that wait for them, it says nothing.
pub record StandsStill (old new : Team) (seats seats' : Seats) : Type 0 where
  pub idled : Idled old new seats seats'
  pub trace : new.desk.trace ≡ old.desk.trace
  pub cpu : new.desk.cpu ≡ old.desk.cpu
  pub fractions : new.desk.work.fractions.items ≡ old.desk.work.fractions.items
  pub flushers : AreLeft old.posts new.posts
