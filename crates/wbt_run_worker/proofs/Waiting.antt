-- Jobs that have nothing to do, and what they leave.
use Rattle.std.proofs.Common.{◌≡◌, ℕ, zero, suc, ◌<◌, ◌-◌, false, List, [], ◌∷◌, length, set, get_or, refl, sym, ap, ◌∙◌, subst, arith}
use Rattle.wbt_flusher.specs.Answers.{wait_of}
use Rattle.wbt_run_worker.proofs.Common.{Phase, Seats, Trace, Tasks, HasNothingToDo, StandsStill, taker, Seen, Team}
use Rattle.wbt_writer.specs.Choice.{IsChosen}
use Rattle.wbt_writer.specs.declared.choose.Chosen.TheVariants as chosen
use Rattle.wbt_run_worker.specs.Rotation.{AreLeft, FlusherWaits, IsLeft, WritersWait}
use Rattle.wbt_run_worker.specs.Side.{HasEnded}
use Rattle.wbt_run_worker.specs.declared.round.JobOutcome.{JobOutcome}
use Rattle.wbt_run_worker.specs.declared.round.JobOutcome.TheVariants as job_said
use Rattle.wbt_run_worker.specs.declared.side.Job.{Job}
use Rattle.wbt_run_worker.specs.declared.side.Job.TheVariants.{Writers, Flusher}
use Rattle.wbt_run_worker.proofs.Going.{idled_more, idled_now}

-- ---- flushers

left_one : (p : Seen) → IsLeft p p
left_one p = record { plan = refl; phase = refl; batch = refl; hard = refl; tallies = refl; wheel = refl; places = refl }

pub left_same : (xs : List Seen) → AreLeft xs xs
left_same [] = tt
left_same (x ∷ xs) = (left_one x, left_same xs)

pub left_set : (xs : List Seen) (k : ℕ) (d q : Seen) → IsLeft (get_or xs k d) q → AreLeft xs (set xs k q)
left_set [] k d q one = tt
left_set (x ∷ xs) zero d q one = (one, left_same xs)
left_set (x ∷ xs) (suc k) d q one = (left_one x, left_set xs k d q one)

left_both : (p q r : Seen) → IsLeft p q → IsLeft q r → IsLeft p r
left_both p q r a b = record {
  plan = b.plan ∙ a.plan;
  phase = b.phase ∙ a.phase;
  batch = b.batch ∙ a.batch;
  hard = b.hard ∙ a.hard;
  tallies = b.tallies ∙ a.tallies;
  wheel = b.wheel ∙ a.wheel;
  places = b.places ∙ a.places;
}

pub left_more : (xs ys zs : List Seen) → AreLeft xs ys → AreLeft ys zs → AreLeft xs zs
left_more [] [] [] a b = tt
left_more [] [] (z ∷ zs) a b = absurd b
left_more [] (y ∷ ys) zs a b = absurd a
left_more (x ∷ xs) [] zs a b = absurd a
left_more (x ∷ xs) (y ∷ ys) [] a b = absurd b
left_more (x ∷ xs) (y ∷ ys) (z ∷ zs) a b = (left_both x y z a.0 b.0, left_more xs ys zs a.1 b.1)

pub as_many : (xs ys : List Seen) → AreLeft xs ys → length ys ≡ length xs
as_many [] [] a = refl
as_many [] (y ∷ ys) a = absurd a
as_many (x ∷ xs) [] a = absurd a
as_many (x ∷ xs) (y ∷ ys) a = let rest = as_many xs ys a.1 in omega arith

left_at : (xs ys : List Seen) (k : ℕ) (d : Seen) → AreLeft xs ys → k < length xs → IsLeft (get_or xs k d) (get_or ys k d)
left_at [] ys k d a less = absurd (omega arith)
left_at (x ∷ xs) [] k d a less = absurd a
left_at (x ∷ xs) (y ∷ ys) zero d a less = a.0
left_at (x ∷ xs) (y ∷ ys) (suc k) d a less = left_at xs ys k d a.1 (omega arith)

-- an item that stands at its place is found there, whatever stands for none
found_there : (xs : List Seen) (k : ℕ) (d e : Seen) → k < length xs → get_or xs k d ≡ get_or xs k e
found_there [] k d e less = absurd (omega arith)
found_there (x ∷ xs) zero d e less = refl
found_there (x ∷ xs) (suc k) d e less = found_there xs k d e (omega arith)

-- ---- all that stands still

pub still_now : (team : Team) (seats : Seats) → StandsStill team team seats seats
still_now team seats = record { idled = idled_now team seats; trace = refl; cpu = refl; fractions = refl; flushers = left_same team.posts }

pub still_both : (a b c : Team) (s t u : Seats) → StandsStill a b s t → StandsStill b c t u → StandsStill a c s u
still_both a b c s t u p q = record {
  idled = idled_more a b c s t u p.idled q.idled;
  trace = q.trace ∙ p.trace;
  cpu = q.cpu ∙ p.cpu;
  fractions = q.fractions ∙ p.fractions;
  flushers = left_more a.posts b.posts c.posts p.flushers q.flushers;
}

-- ---- a job had nothing to do when the round began, where it has nothing to do after jobs that stood still

module _ (told : ℕ → Type 0) (a b : Team) (s t : Seats) (still : StandsStill a b s t) where
  writers_before : (outcome : JobOutcome) → WritersWait told b.desk.trace b outcome → WritersWait told a.desk.trace a outcome
  writers_before job_said.Stepped waits = absurd waits
  writers_before (job_said.Resting ticks) waits =
      (waits.0, waits.1, waits.2, subst (λ (tasks : Tasks). IsChosen tasks waits.0 (chosen.Resting waits.1)) still.idled.tasks waits.3, waits.4)
  writers_before job_said.Over waits =
      subst (λ (trace : Trace). HasEnded trace a.desk.work.tasks) still.trace (subst (λ (tasks : Tasks). HasEnded b.desk.trace tasks) still.idled.tasks waits)
  writers_before (job_said.Ends end) waits = absurd waits

  flusher_before : (place : ℕ) (outcome : JobOutcome) → FlusherWaits told place b outcome → FlusherWaits told place a outcome
  flusher_before place job_said.Stepped waits = absurd waits
  flusher_before place (job_said.Resting ticks) waits =
      let many = as_many a.posts b.posts still.flushers in
      let after = waits.there in
      let there : place < length a.posts = omega arith in
      let left = left_at a.posts b.posts place waits.flusher still.flushers there in
      let same : waits.flusher.work.phase ≡ (get_or a.posts place waits.flusher).work.phase = ap (λ (p : Seen). p.work.phase) (sym waits.its) ∙ left.phase in
      record {
        flusher = get_or a.posts place waits.flusher;
        there = there;
        its = found_there a.posts place (get_or a.posts place waits.flusher) waits.flusher there;
        now = waits.now;
        was_told = waits.was_told;
        later = subst (λ (phase : Phase). waits.now < wait_of false phase) same waits.later;
        ticks_are = subst (λ (phase : Phase). ticks ≡ wait_of false phase - waits.now) same waits.ticks_are;
      }
  flusher_before place job_said.Over waits = absurd waits
  flusher_before place (job_said.Ends end) waits = absurd waits

  job_before : (job : Job) (outcome : JobOutcome) → HasNothingToDo told b.desk.trace b job outcome → HasNothingToDo told a.desk.trace a job outcome
  job_before Writers outcome waits = writers_before outcome waits
  job_before (Flusher place) outcome waits = flusher_before place outcome waits

  pub waits_before : (job : Job) (outcome : JobOutcome) → HasNothingToDo told b.desk.trace b (taker (length b.posts) job) outcome
      → HasNothingToDo told a.desk.trace a (taker (length a.posts) job) outcome
  waits_before job outcome waits = job_before (taker (length a.posts) job) outcome
      (subst (λ (n : ℕ). HasNothingToDo told b.desk.trace b (taker n job) outcome) (as_many a.posts b.posts still.flushers) waits)
