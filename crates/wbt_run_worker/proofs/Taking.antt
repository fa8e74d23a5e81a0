-- A job's turn: what it did, by its answer, and why it wasn't made.
use Rattle.std.proofs.Common.{◌≡◌, ◌⊎◌, inl, inr, ℕ, ◌<◌, ◌-◌, Bool, false, true≢false, if◌then◌else◌, List, length, map, set, get_or, refl, sym, ap, ◌∙◌, subst, arith}
use Rattle.std.proofs.lemmas.Bool.{lt-ltb}
use Rattle.wbt_run_worker.proofs.Common.{FlusherAnswers, HasRisen, Told, CpuJournal, Kit, Seats, Turn, StepsInTurn, Desk, Tasks, job_by, HasNothingToDo, StandsStill, taker, JobTakes, JobWaits, Seen, Team}
use Rattle.wbt_flusher.specs.Answers as flusher
use Rattle.wbt_flusher.specs.Cut.{FlusherFails, FlusherStops, FlusherWaits}
use Rattle.wbt_flusher.specs.Sights as sights
use Rattle.wbt_flusher.specs.Took.{FlusherTook}
use Rattle.wbt_kit.specs.declared.turn.Turn.TheVariants as turn
use Rattle.wbt_table.specs.Layout.{domains}
use Rattle.wbt_writer.specs.Answers.{Idles, Turned, WriterAnswers}
use Rattle.wbt_writer.specs.Desk.{Sight, sight}
use Rattle.wbt_writer.specs.Exact.{WriterTakes}
use Rattle.wbt_writer.specs.Over.{IsAllDone}
use Rattle.wbt_run_worker.specs.Rotation.{FlusherRests, IsLeft}
use Rattle.wbt_run_worker.specs.Rounds.{FlusherDid, TakesTurn}
use Rattle.wbt_run_worker.specs.declared.round.JobOutcome.{JobOutcome}
use Rattle.wbt_run_worker.specs.declared.round.JobOutcome.TheVariants as job_said
use Rattle.wbt_run_worker.specs.declared.side.Job.{Job}
use Rattle.wbt_run_worker.specs.declared.side.Job.TheVariants.{Writers, Flusher}
use Rattle.wbt_run_worker.proofs.Lists.{long_map}
use Rattle.wbt_run_worker.proofs.Waiting.{left_same, left_set}

-- ---- of the same taker

module _ {A B : Type 0} (f : A → B) (xs : List A) (job by : Job) (is_by : by ≡ taker (length xs) job) where
  pub taken_by : taker (length (map f xs)) job ≡ by
  taken_by = ap (λ (n : ℕ). taker n job) (long_map f xs) ∙ sym is_by

  pub taken_by_flusher : (place : ℕ) → by ≡ Flusher place → place < length xs → taker (length (map f xs)) job ≡ taker (length (map f xs)) (Flusher place)
  taken_by_flusher place is there = taken_by ∙ is
      ∙ sym (ap (λ (b : Bool). if b then Flusher place else Writers) (lt-ltb place (length (map f xs)) (let long = long_map f xs in omega arith)))

module _ (told : ℕ → Type 0) (said : ℕ → ℕ → Bool → Type 0) (kit : Kit) (job other : Job) (old new : Team) (seats seats' : Seats)
    (same : taker (length old.posts) job ≡ taker (length old.posts) other) where
  pub takes_as : (outcome : JobOutcome) → JobTakes told said kit other outcome old new seats seats' → JobTakes told said kit job outcome old new seats seats'
  takes_as outcome takes = record {
    answer = takes.answer;
    told_so = takes.told_so;
    takes = subst (λ (j : Job). TakesTurn told said kit j takes.answer old new seats seats') (sym same) takes.takes;
    cpu = takes.cpu;
    steps = takes.steps;
  }

  pub waits_as : (outcome : JobOutcome) → JobWaits told other outcome old new seats seats' → JobWaits told job outcome old new seats seats'
  waits_as job_said.Stepped waits = tt
  waits_as (job_said.Resting ticks) waits =
      (subst (λ (j : Job). HasNothingToDo told old.desk.trace old j (job_said.Resting ticks)) (sym same) waits.0, waits.1)
  waits_as job_said.Over waits = (subst (λ (j : Job). HasNothingToDo told old.desk.trace old j job_said.Over) (sym same) waits.0, waits.1)
  waits_as (job_said.Ends end) waits = tt

-- ---- the writers'

module _ (told : ℕ → Type 0) (said : ℕ → ℕ → Bool → Type 0) (kit : Kit) (old : Team) (desk : Desk) (log : CpuJournal) (seats seats' : Seats)
    (fixed : (desk.trace ≡ old.desk.trace) × (desk.cpu ≡ old.desk.cpu)) where
  abbrev new : Team
  new = record { desk = desk; posts = old.posts; log = log }

  abbrev before : Sight
  before = sight old.desk.work seats old.log

  abbrev after : Sight
  after = sight desk.work seats' log

  pub writers_take : (a : Turn) (outcome : JobOutcome) → outcome ≡ job_by a → Turned told said old.desk.trace old.desk.cpu kit a before after
      → WriterTakes told said old.desk.trace kit old.desk.cpu a before after → StepsInTurn (domains kit.throttle.layout) old.desk.cpu a seats seats'
      → JobTakes told said kit Writers outcome old new seats seats'
  writers_take a outcome is turned takes steps = record {
    answer = a;
    told_so = is;
    takes = record { flushers = refl; turned = turned; did = takes };
    cpu = fixed.1;
    steps = steps;
  }

  still : (put : Sight) → Idles before after → desk.work.tasks ≡ old.desk.work.tasks → put.work.fractions.items ≡ old.desk.work.fractions.items → after ≡ put
      → StandsStill old new seats seats'
  still put idles same fractions is = record {
    idled = record { tasks = same; cpu = idles.cpu; share = idles.share; est = idles.est; log = idles.log };
    trace = fixed.0;
    cpu = fixed.1;
    fractions = ap (λ (s : Sight). s.work.fractions.items) is ∙ fractions;
    flushers = left_same old.posts;
  }

  pub writers_wait : (a : Turn) (added : List Told) → WriterAnswers told said old.desk.trace old.desk.cpu kit a added before after
      → WriterTakes told said old.desk.trace kit old.desk.cpu a before after → JobWaits told Writers (job_by a) old new seats seats'
  writers_wait turn.Stepped added answers takes = tt
  writers_wait (turn.Resting now until) added answers takes =
      ((now, until, answers.0, answers.1, refl), still takes.put answers.2 answers.3 takes.puts.fractions takes.took)
  writers_wait turn.Done added answers takes = (
    record { all = answers.1; done = subst (λ (tasks : Tasks). IsAllDone old.desk.trace tasks) answers.3 answers.4 },
    still takes.put answers.2 answers.3 takes.puts.fractions takes.took,
  )
  writers_wait turn.Halted added answers takes = tt
  writers_wait turn.Faulted added answers takes = tt
  writers_wait turn.Spent added answers takes = tt
  writers_wait turn.NoMemory added answers takes = tt

-- ---- a flusher's

module _ (told : ℕ → Type 0) (said : ℕ → ℕ → Bool → Type 0) (kit : Kit) (old : Team) (k : ℕ) (d q : Seen) (seats seats' : Seats) (log' : CpuJournal)
    (there : k < length old.posts) (is : get_or old.posts k d ≡ d) (same : q.plan ≡ d.plan) where
  abbrev moved : Team
  moved = record { desk = old.desk; posts = set old.posts k q; log = log' }

  abbrev was : sights.Sight
  was = sights.sight d.work seats old.log d.written

  abbrev now_is : sights.Sight
  now_is = sights.sight q.work seats' log' q.written

  abbrev Answers : (a : Turn) → Type 0
  Answers a = FlusherAnswers d.plan kit false told said (HasRisen d.faults q.faults) a was now_is

  its_place : taker (length old.posts) (Flusher k) ≡ Flusher k
  its_place = ap (λ (b : Bool). if b then Flusher k else Writers) (lt-ltb k (length old.posts) there)

  pub flusher_did : (a : Turn) → Answers a → (a ≡ turn.Stepped → FlusherTook d.plan kit false told said was now_is)
      → (a ≡ turn.Halted → FlusherStops d.plan kit false told said was now_is) → (a ≡ turn.Faulted → FlusherFails d.plan kit was now_is)
      → ((now until : ℕ) → (a ≡ turn.Resting now until) ⊎ (a ≡ turn.Spent) → FlusherWaits d.plan kit was now_is)
      → FlusherDid told said d.plan kit a was now_is
  flusher_did turn.Stepped answers took halts fails waits = took refl
  flusher_did (turn.Resting now until) answers took halts fails waits = (answers.left, waits now until (inl refl))
  flusher_did turn.Done answers took halts fails waits = absurd (true≢false (sym answers.does.in_drain))
  flusher_did turn.Halted answers took halts fails waits = (halts refl, answers.does.stopped)
  flusher_did turn.Faulted answers took halts fails waits = fails refl
  flusher_did turn.Spent answers took halts fails waits = waits 0 0 (inr refl)
  flusher_did turn.NoMemory answers took halts fails waits = answers

  pub flusher_takes : (a : Turn) (outcome : JobOutcome) → outcome ≡ job_by a → FlusherDid told said d.plan kit a was now_is → d.plan.cpu ≡ old.desk.cpu
      → StepsInTurn (domains kit.throttle.layout) d.plan.cpu a seats seats' → JobTakes told said kit (Flusher k) outcome old moved seats seats'
  flusher_takes a outcome told_so did own steps = record {
    answer = a;
    told_so = told_so;
    takes = subst (λ (j : Job). TakesTurn told said kit j a old moved seats seats') (sym its_place)
        (record { was = d; is = q; there = there; its = is; others = refl; writers = refl; did = did });
    cpu = refl;
    steps = subst (λ (cpu : ℕ). StepsInTurn (domains kit.throttle.layout) cpu a seats seats') own steps;
  }

  stands : flusher.IsLeft was now_is → StandsStill old moved seats seats'
  stands left = record {
    idled = record { tasks = refl; cpu = left.cpu; share = left.share; est = left.est; log = left.log };
    trace = refl;
    cpu = refl;
    fractions = refl;
    flushers = left_set old.posts k d q (subst (λ (p : Seen). IsLeft p q) (sym is)
        (record { plan = same; phase = left.phase; batch = left.batch; hard = left.hard; tallies = left.tallies; wheel = left.wheel; places = left.places }));
  }

  rests : (now until : ℕ) → Answers (turn.Resting now until) → FlusherRests told k (until - now) old
  rests now until answers = record {
    flusher = d;
    there = there;
    its = is;
    now = now;
    was_told = answers.was_told;
    later = subst (λ (n : ℕ). now < n) answers.until_is answers.later;
    ticks_are = ap (λ (n : ℕ). n - now) answers.until_is;
  }

  pub flusher_waits : (a : Turn) → Answers a → JobWaits told (Flusher k) (job_by a) old moved seats seats'
  flusher_waits turn.Stepped answers = tt
  flusher_waits (turn.Resting now until) answers = (
    subst (λ (j : Job). HasNothingToDo told old.desk.trace old j (job_said.Resting (until - now))) (sym its_place) (rests now until answers),
    stands answers.left,
  )
  flusher_waits turn.Done answers = absurd (true≢false (sym answers.does.in_drain))
  flusher_waits turn.Halted answers = tt
  flusher_waits turn.Faulted answers = tt
  flusher_waits turn.Spent answers = tt
  flusher_waits turn.NoMemory answers = tt
