-- What a flusher's turn answers to its CPU's side.
use Rattle.std.proofs.Common.{◌≡◌, ℕ, ◌<◌, Bool, false, length, set, get_or, refl, sym, subst, true≢false, arith}
use Rattle.wbt_run_worker.proofs.Common.{FlusherAnswers, no_moments, sight, Failed, HasRisen, CpuJournal, HasNoPageSteps, setting, Trace, Kit, Seats, Turn, IsStopped, Goes, JobAnswers, job_by, IsPost, IsSide, Seen, Team, Idled, IsFaulted}
use Rattle.wbt_flusher.specs.Answers.{IsLeft, wait_of}
use Rattle.wbt_flusher.specs.Answers as flusher
use Rattle.wbt_flusher.specs.Did as flusher_did
use Rattle.wbt_kit.specs.declared.turn.Turn.TheVariants as turn
use Rattle.wbt_run_worker.specs.Answers.{WaitsOn}
use Rattle.wbt_run_worker.proofs.Flushing.{post_at}
use Rattle.wbt_run_worker.proofs.Lists.{each_set}
use Rattle.wbt_run_worker.proofs.Posts.{IsLater, faulted_here}
use Rattle.wbt_run_worker.proofs.Turning.{flusher_goes, side_after}
use Rattle.wbt_run_worker.proofs.Untouched.{untouched_goes, untouched_side}
use Rattle.wbt_run_worker.proofs.Writing.{none_failed}

module _ (told : ℕ → Type 0) (said : ℕ → ℕ → Bool → Type 0) (kit : Kit) (old : Team) (k : ℕ) (d q : Seen) (seats seats' : Seats) (log' : CpuJournal)
    (there : k < length old.posts) (is : get_or old.posts k d ≡ d) (same : q.plan ≡ d.plan) (later : IsLater d q)
    (side : IsSide old.desk.trace old.desk.cpu kit old seats) where
  abbrev new : Team
  new = record { desk = old.desk; posts = set old.posts k q; log = log' }

  abbrev cpu : ℕ
  cpu = old.desk.cpu

  abbrev trace : Trace
  trace = old.desk.trace

  abbrev Answers : (a : Turn) → Type 0
  Answers a = FlusherAnswers d.plan kit false told said (HasRisen d.faults q.faults) a (sight d.work seats old.log d.written) (sight q.work seats' log' q.written)

  own_cpu : d.plan.cpu ≡ cpu
  own_cpu = (subst (λ (p : Seen). IsPost trace cpu kit seats.est p) is (post_at trace cpu kit old.posts k d seats there side.stands.posted)).cpu_is

  goes : (moments : flusher_did.Moments) → flusher.AreTold told moments
      → flusher.Went d.plan kit moments (sight d.work seats old.log d.written) (sight q.work seats' log' q.written) → Goes told trace cpu kit old new seats seats'
  goes moments all_told went = flusher_goes told said kit old k d q seats seats' log' there is same later side moments all_told went

  may_follow : (moments : flusher_did.Moments) → flusher.AreTold told moments
      → flusher.Steps d.plan kit moments (sight d.work seats old.log d.written) (sight q.work seats' log' q.written) → IsSide trace cpu kit new seats'
  may_follow moments all_told steps = side_after told said kit old k d q seats seats' log' there is same later side moments all_told steps.went steps.ready

  none_told : flusher.AreTold told no_moments
  none_told = record { batches = tt; estimates = tt }

  pub goes_by : (a : Turn) → Answers a → Goes told trace cpu kit old new seats seats'
  goes_by turn.Stepped a = goes a.moments a.all_told a.does.went
  goes_by (turn.Resting now until) a = goes no_moments none_told a.steps.went
  goes_by turn.Done a = goes a.moments a.all_told a.does.steps.went
  goes_by turn.Halted a = goes a.moments a.all_told a.does.went
  goes_by turn.Faulted a = goes a.moments a.all_told a.does.went
  goes_by turn.Spent a = goes a.moments a.all_told a.does.steps.went
  goes_by turn.NoMemory a = untouched_goes told kit old k d q seats seats' log' there is same later side a

  idled : IsLeft (sight d.work seats old.log d.written) (sight q.work seats' log' q.written) → Idled old new seats seats'
  idled left = record { tasks = refl; cpu = left.cpu; share = left.share; est = left.est; log = left.log }

  still_spent : HasNoPageSteps (setting kit.throttle.layout) d.plan.cpu seats'.cpu → HasNoPageSteps (setting kit.throttle.layout) cpu seats'.cpu
  still_spent none = subst (λ (c : ℕ). HasNoPageSteps (setting kit.throttle.layout) c seats'.cpu) own_cpu none

  pub answers_by : (a : Turn) → Answers a → JobAnswers said trace cpu kit (job_by a) old new seats seats'
  answers_by turn.Stepped a = may_follow a.moments a.all_told a.does
  answers_by (turn.Resting now until) a = (may_follow no_moments none_told a.steps, idled a.left)
  answers_by turn.Done a = absurd (true≢false (sym a.does.in_drain))
  answers_by turn.Halted a = (
    subst (λ (c : ℕ). IsStopped c said seats') own_cpu a.does.stopped,
    each_set (λ (p : Seen). p.work.phase ≡ Failed → ⊥) old.posts k q (none_failed old.posts side.steady.each) a.does.stands,
  )
  answers_by turn.Faulted a =
      faulted_here old.posts k d q there (subst (λ (p : Seen). IsFaulted p q) (sym is) (record { risen = a.does.cause; failed = a.does.failed; eighth = a.does.eighth }))
  answers_by turn.Spent a = (may_follow a.moments a.all_told a.does.steps, still_spent a.does.none_left)
  answers_by turn.NoMemory a = (untouched_side told kit old k d q seats seats' log' there is same later side a, idled a.left)

  pub waits_on : (a : Turn) → Answers a → WaitsOn a
  waits_on turn.Stepped a = tt
  waits_on (turn.Resting now until) a = let less = a.later in omega arith
  waits_on turn.Done a = tt
  waits_on turn.Halted a = tt
  waits_on turn.Faulted a = tt
  waits_on turn.Spent a = tt
  waits_on turn.NoMemory a = tt
